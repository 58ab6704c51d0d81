-- Whether certificates stand in the values that wait.
use Rattle.std.proofs.Common.{◌≡◌, ◌↔◌, true, false, List, [], ◌∷◌, ◌++◌, sym, subst, Bor}
use Rattle.lw_pool.specs.declared.id.FormId.{FormId}
use Rattle.lw_value.specs.declared.value.Value.{Value}
use Rattle.lw_value.specs.Values.{Val, Vals, formula, truth, number, text, items, logic, certificate, naught, empty, item}
use Rattle.lw_value.specs.Evidence.{EachOfCertificates, HasNoCertificate}
use Rattle.lw_value.specs.Views.{value_of}
use Rattle.lw_value.specs.Private.LengthsLeft.{values_under, items_in, items_of}
use Rattle.lw_value.specs.Private.Likeness.{is_certificate, HaveNoCertificate}
use Rattle.lw_value.proofs.ValuesWaiting.{under-last}

none-in : (vs : Vals FormId) → EachOfCertificates (λ l a e. ⊥) vs ↔ HaveNoCertificate (items_in vs)
none-in empty = ((λ h. tt), (λ h. tt))
none-in (item v vs) = let rest = none-in vs in ((λ h. (h.0, rest.0 h.1)), (λ h. (h.0, rest.1 h.1)))

none-of : (v : Val FormId) → is_certificate v ≡ false → HasNoCertificate v ↔ HaveNoCertificate (items_of v)
none-of (formula a) other = ((λ h. tt), (λ h. tt))
none-of (truth b) other = ((λ h. tt), (λ h. tt))
none-of (number n) other = ((λ h. tt), (λ h. tt))
none-of (text bytes) other = ((λ h. tt), (λ h. tt))
none-of (items vs) other = none-in vs
none-of (logic l) other = ((λ h. tt), (λ h. tt))
none-of (certificate l a e) other = absurd cc
none-of naught other = ((λ h. tt), (λ h. tt))

is-one : (v : Val FormId) → is_certificate v ≡ true → HasNoCertificate v → ⊥
is-one (formula a) it none = cc
is-one (truth b) it none = cc
is-one (number n) it none = cc
is-one (text bytes) it none = cc
is-one (items vs) it none = cc
is-one (logic l) it none = cc
is-one (certificate l a e) it none = none
is-one naught it none = cc

none-append : (vs ws : List (Val FormId)) → HaveNoCertificate (vs ++ ws) ↔ (HaveNoCertificate vs × HaveNoCertificate ws)
none-append [] ws = ((λ h. (tt, h)), (λ h. h.1))
none-append (v ∷ vs) ws = let rest = none-append vs ws in (
  (λ h. let both = rest.0 h.1 in ((h.0, both.0), both.1)),
  (λ h. (h.0.0, rest.1 (h.0.1, h.1))),
)

module _ (before rest : List (Bor Value)) (v : Bor Value) (last : before ≡ rest ++ v ∷ []) where
  pub one-waits : is_certificate (value_of v.now) ≡ true → HaveNoCertificate (values_under before) → ⊥
  one-waits it none = is-one (value_of v.now) it ((none-append (values_under rest) (value_of v.now ∷ [])).0 (subst HaveNoCertificate (under-last before rest v last) none)).1.0

  module _ (after : List (Bor Value)) (put : values_under after ≡ values_under rest ++ items_of (value_of v.now)) where
    pub none-kept : is_certificate (value_of v.now) ≡ false → HaveNoCertificate (values_under after) ↔ HaveNoCertificate (values_under before)
    none-kept other = (
      (λ h. let both = (none-append (values_under rest) (items_of (value_of v.now))).0 (subst HaveNoCertificate put h) in
          subst HaveNoCertificate (sym (under-last before rest v last)) ((none-append (values_under rest) (value_of v.now ∷ [])).1 (both.0, ((none-of (value_of v.now) other).1 both.1, tt)))),
      (λ h. let both = (none-append (values_under rest) (value_of v.now ∷ [])).0 (subst HaveNoCertificate (under-last before rest v last) h) in
          subst HaveNoCertificate (sym put) ((none-append (values_under rest) (items_of (value_of v.now))).1 (both.0, (none-of (value_of v.now) other).0 both.1.0))),
    )
