-- In one pool lists of ids stand for one set exactly where the test of their keys passes.
use Rattle.std.proofs.Common.{◌≡◌, ◌<◌, ℕ, Bool, true, List, length, get_or, map, ap, subst, sym, ◌∙◌, eqb, arith}
use Rattle.std.specs.Bool.{Decides}
use Rattle.std.specs.Cmp.Lexicographic.{pointwise, bytes_decides}
use Rattle.std.specs.List.{Contains, list_any}
use Rattle.std.proofs.lemmas.Bool.Decides.{Decides-and}
use Rattle.std.proofs.lemmas.List.{get_or-map, length-map}
use Rattle.std.proofs.lemmas.List.Elements.{All-contains, Contains-get_or}
use Rattle.lw_formula.specs.declared.sign.Sign.{Sign}
use Rattle.lw_formula.specs.declared.sign.Sign.TheVariants.{T, F}
use Rattle.lw_formula.specs.Formula.{Formula}
use Rattle.lw_formula.specs.Signed.{Signed, SignedSet}
use Rattle.lw_formula.proofs.ListTests.{list_any-Contains}
use Rattle.lw_pool.specs.declared.id.SignedId.{SignedId}
use Rattle.lw_pool.specs.Region.{IsLive, AreIdsExact, signed_at}
use Rattle.lw_proof.specs.System.{same_signed}
use Rattle.lw_proof.proofs.SignedIdLists.{id_eq, id_eq-Decides}
use Rattle.lw_proof.proofs.SignedMeaning.{same_signed-Decides}
use Rattle.lw_sets.specs.IdSets.{set_of, AreLive}
use Rattle.lw_sets.proofs.SetMembers.{Decides_alike, set_of-Contains}
use Rattle.lw_share.specs.declared.key.SetKey.{SetKey}
use Rattle.lw_share.specs.contracts.key.SetKeyPartialEq.TheImpl as key_test
use Rattle.lw_share.specs.Private.SetKeys.{AreFormsUnder, IsKeyOf}
use Rattle.lw_share.proofs.AscendingNumbers.{same_increasing}
use Rattle.lw_share.proofs.FormsUnder.{id_under}

abbrev pub key_eq : SetKey → SetKey → Bool
key_eq = key_test.ghosts.eq

-- the test compares the forms under each sign
key_eq-Decides : (k m : SetKey) → Decides (key_eq k m) ((k.under_t.items ≡ m.under_t.items) × (k.under_f.items ≡ m.under_f.items))
key_eq-Decides k m =
    Decides-and (pointwise eqb k.under_t.items m.under_t.items) (pointwise eqb k.under_f.items m.under_f.items)
    (bytes_decides k.under_t.items m.under_t.items) (bytes_decides k.under_f.items m.under_f.items)

-- each member of the first list is one of the second
abbrev AreAmong : List SignedId → List SignedId → Type 0
AreAmong xs ys = (x : SignedId) → Contains xs x → Contains ys x

among_from_forms : (xs ys : List SignedId) (k m : SetKey) → IsKeyOf xs k → IsKeyOf ys m →
    k.under_t.items ≡ m.under_t.items → k.under_f.items ≡ m.under_f.items → AreAmong xs ys
among_from_forms xs ys k m h g t f x c = by x.sign x.form.0 c
  where
    by : (sign : Sign) (n : ℕ) → Contains xs (id_under sign n) → Contains ys (id_under sign n)
    by T n c = (g.under_t.exact n).0 (subst (λ (ns : List ℕ). Contains ns n) t ((h.under_t.exact n).1 c))
    by F n c = (g.under_f.exact n).0 (subst (λ (ns : List ℕ). Contains ns n) f ((h.under_f.exact n).1 c))

forms_from_among : (xs ys : List SignedId) (sign : Sign) (ms ns : List ℕ) → AreFormsUnder xs sign ms → AreFormsUnder ys sign ns →
    AreAmong xs ys → AreAmong ys xs → ms ≡ ns
forms_from_among xs ys sign ms ns h g one other =
    same_increasing ms ns h.ascending g.ascending (λ n. (
      λ c. (g.exact n).1 (one (id_under sign n) ((h.exact n).0 c)),
      λ c. (h.exact n).1 (other (id_under sign n) ((g.exact n).0 c)),
    ))

module _ (ts : List Formula) where
  mapped_among : (xs ys : List SignedId) → AreAmong xs ys → (s : Signed) →
      Contains (map (signed_at ts) xs) s → Contains (map (signed_at ts) ys) s
  mapped_among xs ys h s c =
      let first : SignedId = id_under T 0 in
      let x : SignedId = get_or xs c.0 first in
      let below : c.0 < length xs = omega (arith, c.1, length-map xs (signed_at ts)) in
      let is : signed_at ts x ≡ s = sym (get_or-map (signed_at ts) xs c.0 first s below) ∙ c.2 in
      let there : Contains ys x = h x (Contains-get_or xs c.0 first below) in (
        there.0,
        omega (arith, there.1, length-map ys (signed_at ts)),
        get_or-map (signed_at ts) ys there.0 x s there.1 ∙ ap (signed_at ts) there.2 ∙ is,
      )

  set_of-member : (xs : List SignedId) (s : Signed) → Decides (set_of ts xs s) (Contains (map (signed_at ts) xs) s)
  set_of-member xs s = list_any-Contains (λ c. same_signed c s) s (λ c. same_signed-Decides c s) (map (signed_at ts) xs)

  -- lists with the same members stand for one set
  one_set : (xs ys : List SignedId) → AreAmong xs ys → AreAmong ys xs → set_of ts xs ≡ set_of ts ys
  one_set xs ys one other = λ i s. at_each s i
    where
      at_each : (s : Signed) → set_of ts xs s ≡ set_of ts ys s
      at_each s =
          Decides_alike (set_of ts xs s) (set_of ts ys s) (set_of-member xs s) (set_of-member ys s)
          (mapped_among xs ys one s) (mapped_among ys xs other s)

  pub set_from_keys : (xs ys : List SignedId) (k m : SetKey) → IsKeyOf xs k → IsKeyOf ys m → key_eq k m ≡ true → set_of ts xs ≡ set_of ts ys
  set_from_keys xs ys k m h g e =
      let same = (key_eq-Decides k m).0 e in
      one_set xs ys (among_from_forms xs ys k m h g same.0 same.1) (among_from_forms ys xs m k g h (sym same.0) (sym same.1))

  module _ (exact : AreIdsExact ts) where
    member_told : (xs : List SignedId) → AreLive ts xs → (x : SignedId) → IsLive ts x.form →
        Decides (set_of ts xs (signed_at ts x)) (Contains xs x)
    member_told xs l x m =
        let told = list_any-Contains (λ y. id_eq y x) x (λ y. id_eq-Decides y x) xs in
        subst (λ b. Decides b (Contains xs x)) (set_of-Contains ts exact x m xs l (list_any (λ y. id_eq y x) xs) told) told

    -- lists that stand for one set have the same members
    among_from_sets : (xs ys : List SignedId) → AreLive ts xs → AreLive ts ys → set_of ts xs ≡ set_of ts ys → AreAmong xs ys
    among_from_sets xs ys l m e x c =
        let live : IsLive ts x.form = All-contains (λ (y : SignedId). IsLive ts y.form) xs x l c in
        (member_told ys m x live).0 (sym (ap (λ (X : SignedSet). X (signed_at ts x)) e) ∙ (member_told xs l x live).1 c)

    pub keys_from_set : (xs ys : List SignedId) (k m : SetKey) → AreLive ts xs → AreLive ts ys → IsKeyOf xs k → IsKeyOf ys m →
        set_of ts xs ≡ set_of ts ys → key_eq k m ≡ true
    keys_from_set xs ys k m l n h g e =
        let one = among_from_sets xs ys l n e in
        let other = among_from_sets ys xs n l (sym e) in
        (key_eq-Decides k m).1 (
          forms_from_among xs ys T k.under_t.items m.under_t.items h.under_t g.under_t one other,
          forms_from_among xs ys F k.under_f.items m.under_f.items h.under_f g.under_f one other,
        )
