use Rattle.std.proofs.Common.{arith, ◌≡◌, false, is_none}
use Rattle.std.proofs.lemmas.Grind.{common_steps}
use Rattle.lw_io.specs.Files.{bytes_at}
use Rattle.lw_io.specs.Memory.{next_is_listed}
use Rattle.lw_io.proofs.memory_store.MemoryStoreStore.fetch.Goals as goal

pub returns-clause-failed : goal.returns-clause-failed
returns-clause-failed c =
    let held : is_none (bytes_at c.args.self.now.files c.args.name.now) ≡ false = grind (arith, common_steps) in
    let unlisted : next_is_listed c.args.self.now ≡ false = grind (arith, common_steps) in
    (λ failed. absurd (c.first_bytes.ensures.err failed), λ fails. grind (arith, common_steps))
