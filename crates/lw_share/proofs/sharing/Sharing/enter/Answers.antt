use Rattle.std.proofs.Common.{◌++◌, ◌∷◌, [], ℕ, List, length, ◌∙◌, sym, subst, ap}
use Rattle.lw_pool.specs.declared.id.SignedId.{SignedId}
use Rattle.lw_proof.specs.declared.rule.Rule.{Rule}
use Rattle.lw_share.specs.Lines.{Line}
use Rattle.lw_share.specs.Pooled.{IsTableLive}
use Rattle.lw_share.specs.Private.SetKeys.{IsKeyOf}
use Rattle.lw_share.specs.Private.SharedSteps.{Enters}
use Rattle.lw_share.proofs.KeyedLines.{found_line, keys_put, new_line}
use Rattle.lw_share.proofs.sharing.Sharing.enter.Goals as goal

abbrev line : List SignedId → Rule → SignedId → List ℕ → Line SignedId
line xs r x is = record { members = xs; rule = r; principal = x; cites = is }

pub returns-in-Some : goal.returns-in-Some
returns-in-Some c =
    let pool = c.args.pool.now in
    let inside = c.self.inside in
    let entered = line c.args.items.now c.args.rule c.args.principal c.args.cites.now in
    record {
      entered = subst (λ table. Enters pool table entered table c.in-Some.line) c.self.view_is
          (found_line pool inside.table inside.keys.keys c.self.invariant entered c.in_ok-key.key c.in_ok-key.ensures c.in-Some.line
          (sym c.get_index_of.ensures.index ∙ c.in-Some.is));
    }

pub invariant_of-self-2 : goal.invariant_of-self-2
invariant_of-self-2 c =
    let inside = c.self.inside in
    let added = line c.as_slice.result.now c.args.rule c.args.principal c.args.cites.now in
    keys_put inside.table c.add.new.self inside.keys.keys c.reserve.new.self.keys c.insert.new.self.keys added c.in_ok-key.key
    c.self.invariant
    (subst (λ xs. IsKeyOf xs c.in_ok-key.key) (sym c.as_slice.ensures.items) c.in_ok-key.ensures)
    c.in_ok-line.ensures.added c.in_ok-reserve.ensures.keys (sym c.in_default.ensures.found) c.in_ok-insert.ensures.keys

pub returns : goal.returns
returns c =
    let pool = c.args.pool.now in
    let table = c.self.inside.table in
    let with_set = λ (xs : List SignedId). line xs c.args.rule c.args.principal c.args.cites.now in
    let entered = with_set c.args.items.now in
    let longer = c.in_ok-line.ensures.added ∙ ap (λ xs. table ++ with_set xs ∷ []) c.as_slice.ensures.items in
    let enters : Enters pool table entered (table ++ entered ∷ []) (length table) =
    new_line pool table c.self.inside.keys.keys c.self.invariant entered c.in_ok-key.key c.in_ok-key.ensures c.count.ensures.ids
    (subst (IsTableLive pool) (sym c.self.view_is) c.requires.table) c.requires.items (sym c.in_default.ensures.found) in
    record {
      entered = subst (λ old. Enters pool old entered c.add.new.self c.in_ok-line.line) c.self.view_is
          (subst (Enters pool table entered c.add.new.self) (sym c.in_ok-line.ensures.number)
          (subst (λ new. Enters pool table entered new (length table)) (sym longer) enters));
    }
