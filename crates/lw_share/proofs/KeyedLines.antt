-- The lines of a table whose sets are looked up by their keys.
use Rattle.std.proofs.Common.{◌≡◌, ◌≢◌, ℕ, ◌<◌, true, false, List, [], ◌∷◌, ◌++◌, length, get_or, position, Some, if◌then◌else◌, ap, subst, sym, ◌∙◌, arith}
use Rattle.std.specs.List.{list_any}
use Rattle.std.proofs.lemmas.Bool.{false≢true}
use Rattle.std.proofs.lemmas.List.Elements.{Contains-get_or}
use Rattle.std.proofs.lemmas.List.Quantifiers.{position-Some}
use Rattle.std.proofs.lemmas.Slice.Zip.{AllZip-long}
use Rattle.indexmap.specs.IndexSet.{insert_key}
use Rattle.lw_formula.specs.declared.sign.Sign.TheVariants.{F}
use Rattle.lw_formula.specs.Formula.{Formula}
use Rattle.lw_formula.proofs.ListTests.{list_any-Decides}
use Rattle.lw_pool.specs.declared.id.SignedId.{SignedId}
use Rattle.lw_pool.specs.Region.{AreIdsExact}
use Rattle.lw_proof.specs.declared.rule.Rule.{Rule}
use Rattle.lw_sets.specs.IdSets.{set_of, AreLive}
use Rattle.lw_share.specs.declared.key.SetKey.{SetKey}
use Rattle.lw_share.specs.Lines.{Line}
use Rattle.lw_share.specs.Pooled.{line_of, IsTableLive}
use Rattle.lw_share.specs.Private.SetKeys.{IsKeyOf, AreKeysOf}
use Rattle.lw_share.specs.Private.SharedSteps.{Enters, known, behind}
use Rattle.lw_share.proofs.CitedLines.{zip_at}
use Rattle.lw_share.proofs.KeyedSets.{key_eq, set_from_keys, keys_from_set}

abbrev IsLineKey : Line SignedId → SetKey → Type 0
IsLineKey line key = IsKeyOf line.members key

-- one more line, with its key
keys_push : (table : List (Line SignedId)) (keys : List SetKey) (line : Line SignedId) (key : SetKey) →
    AreKeysOf table keys → IsKeyOf line.members key → AreKeysOf (table ++ line ∷ []) (keys ++ key ∷ [])
keys_push [] [] line key of is = (is, tt)
keys_push [] (m ∷ ms) line key of is = absurd of
keys_push (l ∷ ls) [] line key of is = absurd of
keys_push (l ∷ ls) (m ∷ ms) line key of is = (of.0, keys_push ls ms line key of.1 is)

-- a line that is put behind the others with its key, which wasn't there
pub keys_put : (table longer : List (Line SignedId)) (keys room more : List SetKey) (line : Line SignedId) (key : SetKey) →
    AreKeysOf table keys → IsKeyOf line.members key → longer ≡ table ++ line ∷ [] → room ≡ keys →
    list_any (key_eq key) keys ≡ false → more ≡ insert_key key_eq room key → AreKeysOf longer more
keys_put table longer keys room more line key of is grown kept absent put =
    let added : more ≡ keys ++ key ∷ [] =
    put ∙ ap (λ ks. insert_key key_eq ks key) kept ∙ ap (λ b. if b then keys else keys ++ key ∷ []) absent in
    subst (λ ks. AreKeysOf longer ks) (sym added)
    (subst (λ ls. AreKeysOf ls (keys ++ key ∷ [])) (sym grown) (keys_push table keys line key of is))

module _ (ts : List Formula) (table : List (Line SignedId)) (keys : List SetKey) (of : AreKeysOf table keys)
    (line : Line SignedId) (key : SetKey) (is : IsKeyOf line.members key) where
  count : length keys ≡ length table
  count = AllZip-long IsLineKey table keys of

  key_at : (i : ℕ) → i < length table → IsKeyOf (line_of table i).members (get_or keys i key)
  key_at i below =
      zip_at IsLineKey table keys i
      (record { members = []; rule = Rule.Close; principal = record { sign = F; form = record { 0 = 0 } }; cites = [] }) key of below

  -- a key that is found is that of a line with this set
  pub found_line : (n : ℕ) → position (key_eq key) keys ≡ Some n → Enters ts table line table n
  found_line n e =
      let at = position-Some (key_eq key) keys n key e in
      let below : n < length table = omega (arith, at.0, count) in
      known below (sym (set_from_keys ts line.members (line_of table n).members key (get_or keys n key) is (key_at n below) at.1))

  -- where it isn't found no line has this set
  pub new_line : AreIdsExact ts → IsTableLive ts table → AreLive ts line.members → list_any (key_eq key) keys ≡ false →
      Enters ts table line (table ++ line ∷ []) (length table)
  new_line exact live here e = behind apart
    where
      apart : (i : ℕ) → i < length table → set_of ts (line_of table i).members ≢ set_of ts line.members
      apart i below same =
          let test : key_eq key (get_or keys i key) ≡ true =
          keys_from_set ts exact line.members (line_of table i).members key (get_or keys i key)
          here (live i _ below).0 is (key_at i below) (sym same) in
          let there : i < length keys = omega (arith, below, count) in
          let found : list_any (key_eq key) keys ≡ true =
          (list_any-Decides (key_eq key) (λ m. key_eq key m ≡ true) (λ m. (λ h. h, λ h. h)) keys).1
          (get_or keys i key, Contains-get_or keys i key there, test) in
          false≢true (sym e ∙ found)
