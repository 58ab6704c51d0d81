use Rattle.std.specs.Prelude.{ℕ, ◌-◌, min, Bool, not, ◌||◌, List, [], ◌++◌, length, take, Option, Some, None, is_none, is_some, nat_eq, nat_le, if◌then◌else◌, refl}
use Rattle.std.specs.List.{list_any}
use Rattle.std.specs.Ordering.{nat_cmp}
use Rattle.std.specs.FinMap.{FinMap, empty, get, code as map_code}
use Rattle.std.specs.Coded.{Coded, code_by, coded×, coded_list, coded_ℕ}
use Rattle.lw_io.specs.Causes.{counted}
use Rattle.lw_io.specs.Files.{Files, bytes_at}

-- a store in memory: its files, the numbers of the fetches that are to fail, how many fetches there were, and how many of them failed
pub record StoreState : Type 0 where
  pub files : Files
  pub listed : List ℕ
  pub calls : ℕ
  pub faults : ℕ

-- such a store is stored as the tuple of its fields
abbrev pub store_code : Coded StoreState
store_code =
    code_by (Files × (List ℕ × (ℕ × ℕ))) (coded× (map_code (coded_list coded_ℕ) (coded_list coded_ℕ)) (coded× (coded_list coded_ℕ) (coded× coded_ℕ coded_ℕ)))
    (λ s. (s.files, (s.listed, (s.calls, s.faults)))) (λ p. record { files = p.0; listed = p.1.0; calls = p.1.1.0; faults = p.1.1.1 }) (λ _. refl)

-- a store without files, of which nothing was asked
abbrev pub empty_store : StoreState
empty_store = record { files = empty; listed = []; calls = 0; faults = 0 }

-- the number of the next fetch is listed among those that are to fail
abbrev pub next_is_listed : StoreState → Bool
next_is_listed s = list_any (λ number. nat_eq number (counted s.calls)) s.listed

-- the next fetch fails at that name: no file has it, or the fetch's number is listed
abbrev pub fetch_fails : StoreState → List ℕ → Bool
fetch_fails s name = is_none (bytes_at s.files name) || next_is_listed s

-- the store after a fetch of that name: the fetch is counted, and so is its failure
abbrev pub after_fetch : StoreState → List ℕ → StoreState
after_fetch s name = record s { calls = counted s.calls; faults = if fetch_fails s name then counted s.faults else s.faults }

-- a sink in memory: its output, how many bytes it has room for in all, the numbers of the writes that are to fail with how many bytes each may keep, how many writes there were, and how many of them failed
pub record SinkState : Type 0 where
  pub written : List ℕ
  pub room : ℕ
  pub listed : FinMap nat_cmp ℕ
  pub calls : ℕ
  pub faults : ℕ

-- such a sink is stored as the tuple of its fields
abbrev pub sink_code : Coded SinkState
sink_code =
    code_by (List ℕ × (ℕ × (FinMap nat_cmp ℕ × (ℕ × ℕ)))) (coded× (coded_list coded_ℕ) (coded× coded_ℕ (coded× (map_code coded_ℕ coded_ℕ) (coded× coded_ℕ coded_ℕ))))
    (λ s. (s.written, (s.room, (s.listed, (s.calls, s.faults))))) (λ p. record { written = p.0; room = p.1.0; listed = p.1.1.0; calls = p.1.1.1.0; faults = p.1.1.1.1 }) (λ _. refl)

-- a sink with that room, to which nothing was written
abbrev pub empty_sink : ℕ → SinkState
empty_sink room = record { written = []; room = room; listed = empty; calls = 0; faults = 0 }

-- how many bytes the next write may keep, where its number is listed among those that are to fail
abbrev pub next_keep : SinkState → Option ℕ
next_keep s = get s.listed (counted s.calls)

-- how many more bytes fit
abbrev pub free_room : SinkState → ℕ
free_room s = s.room - length s.written

-- the next write fails at that piece: the write's number is listed, or the piece doesn't fit
abbrev pub write_fails : SinkState → List ℕ → Bool
write_fails s piece = is_some (next_keep s) || not (nat_le (length piece) (free_room s))

-- at most as many as a listed write may keep, where the write is listed
abbrev pub capped : Option ℕ → ℕ → ℕ
capped None n = n
capped (Some keep) n = min keep n

-- how many bytes of that piece the next write keeps: as many as fit, and no more than a listed write may keep
abbrev pub kept : SinkState → List ℕ → ℕ
kept s piece = capped (next_keep s) (min (length piece) (free_room s))

-- the sink after a write of that piece: it has what the write keeps, the write is counted, and so is its failure
abbrev pub after_write : SinkState → List ℕ → SinkState
after_write s piece = record s { written = s.written ++ take (kept s piece) piece; calls = counted s.calls; faults = if write_fails s piece then counted s.faults else s.faults }
