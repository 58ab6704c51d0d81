-- How signed ids are told apart, and what a set's test and insertion say of the list of its ids.
use Rattle.std.proofs.Common.{◌≡◌, ◌↔◌, ◌++◌, ◌∷◌, [], List, Bool, true, false, inl, inr, if◌then◌else◌, Contains, refl, sym, ap, subst, ◌∙◌, eqb-true}
use Rattle.std.specs.Bool.{Decides, IsTrue}
use Rattle.std.specs.Cmp.{IsEquivalence}
use Rattle.std.specs.List.{list_any}
use Rattle.std.proofs.lemmas.Bool.{false≢true}
use Rattle.std.proofs.lemmas.Map.Views.{Contains-from_any, list_any-from_Contains}
use Rattle.indexmap.specs.IndexSet.{insert_key}
use Rattle.lw_formula.specs.declared.sign.Sign.{Sign}
use Rattle.lw_formula.specs.declared.sign.Sign.TheVariants.{T, F}
use Rattle.lw_pool.specs.declared.id.FormId.{FormId}
use Rattle.lw_pool.specs.declared.id.SignedId.{SignedId}
use Rattle.lw_pool.specs.contracts.id.SignedIdPartialEq.TheImpl as derived
use Rattle.lw_pool.specs.contracts.id.SignedIdEq.TheImpl.Laws as laws
use Rattle.lw_proof.specs.SignedIds.{Adds}

abbrev pub id_eq : SignedId → SignedId → Bool
id_eq = derived.ghosts.eq

id_eq-IsEquivalence : IsEquivalence id_eq
id_eq-IsEquivalence = laws.laws-law

ids_equal : (a b : Sign) (k n : FormId) → id_eq (record { sign = a; form = k }) (record { sign = b; form = n }) ≡ true → (a ≡ b) × (k.0 ≡ n.0)
ids_equal T T k n e = (refl, eqb-true k.0 n.0 e)
ids_equal F F k n e = (refl, eqb-true k.0 n.0 e)
ids_equal T F k n e = absurd (false≢true e)
ids_equal F T k n e = absurd (false≢true e)

pub id_eq-Decides : (x y : SignedId) → Decides (id_eq x y) (x ≡ y)
id_eq-Decides x y = (
  λ e. (let both = ids_equal x.sign y.sign x.form y.form e in λ i. record { sign = both.0 i; form = record { 0 = both.1 i } }),
  λ e. subst (λ z. id_eq x z ≡ true) e (id_eq-IsEquivalence.refl x),
)

module _ (ks xs : List SignedId) (x : SignedId) (same : ks ≡ xs) where
  is_there : list_any (id_eq x) ks ≡ true → Contains xs x
  is_there e = subst (λ (l : List SignedId). Contains l x) same (Contains-from_any (λ a b h. (id_eq-Decides a b).0 h) x ks e)

  is_found : Contains xs x → list_any (id_eq x) ks ≡ true
  is_found h = list_any-from_Contains id_eq-IsEquivalence x ks (subst (λ (l : List SignedId). Contains l x) (sym same) h)

  -- the set's test finds exactly what the list has
  pub found_exactly : (b : Bool) → b ≡ list_any (id_eq x) ks → IsTrue b ↔ Contains xs x
  found_exactly b e = (λ t. is_there (sym e ∙ t), λ h. e ∙ is_found h)

  -- its insertion puts the id at the list's end, where it isn't there
  pub inserted_adds : (ms : List SignedId) → ms ≡ insert_key id_eq ks x → Adds xs ms x
  inserted_adds ms e = by (list_any (id_eq x) ks) refl
    where
      by : (b : Bool) → list_any (id_eq x) ks ≡ b → Adds xs ms x
      by true h = inl (is_there h, e ∙ ap (λ c. if c then ks else ks ++ x ∷ []) h ∙ same)
      by false h = inr (
        λ there. false≢true (sym h ∙ is_found there),
        e ∙ ap (λ c. if c then ks else ks ++ x ∷ []) h ∙ ap (λ l. l ++ x ∷ []) same,
      )
