-- What a step writes of the part on top of the stack.
use Rattle.std.proofs.Common.{◌≡◌, ℕ, ◌≤◌, List, [], ◌∷◌, ◌++◌, codes, OnOk, Result, Ok, Err, is_ok, if◌then◌else◌, sym, ap, ◌∙◌, subst, append_assoc, arith}
use Rattle.std.proofs.lemmas.List.{append-nil}
use Rattle.lw_formula.specs.Formula.{Formula}
use Rattle.lw_pool.specs.declared.id.FormId.{FormId}
use Rattle.lw_cert.specs.declared.certificate.Certificate.{Certificate}
use Rattle.lw_value.specs.declared.value.Value.{Value}
use Rattle.lw_value.specs.Values.{Val, weight, seen, seen_all, formula, truth, number, text, items, logic, certificate, naught}
use Rattle.lw_value.specs.Certified.{certified}
use Rattle.lw_value.specs.ValueTexts.{IsTextOf, AreTextsOf, each_behind}
use Rattle.lw_value.specs.Views.{value_of, values_of}
use Rattle.lw_value.specs.Private.TextsLeft.{Appends, CanPrintAll, Part, whole, rest, IsTextLeft, Writes}

pub on-ok : {A E P Q : Type 0} (r : Result A E) → (P → Q) → OnOk r P → OnOk r Q
on-ok (Ok x) f h = f h
on-ok (Err e) f h = h

-- what `append` puts behind the old bytes
pub appended : {A E : Type 0} (P : List ℕ → Type 0) (r : Result A E) (old new out : List ℕ) → new ≡ (if is_ok r then old ++ out else old) → P out → OnOk r (Appends P old new)
appended P (Ok x) old new out put is = record { out = out; is = is; put = put }
appended P (Err e) old new out put is = tt

pub heavy : (v : Val FormId) → 1 ≤ weight v
heavy (formula a) = omega arith
heavy (truth b) = omega arith
heavy (number n) = omega arith
heavy (text bytes) = omega arith
heavy (items vs) = omega arith
heavy (logic l) = omega arith
heavy (certificate l a e) = omega arith
heavy naught = omega arith

module _ (ts : List Formula) (x : Value) (ys : List Value) (old new : List ℕ) (before after : List Part) (waits : after ≡ before ++ rest (values_of ys) ∷ whole (value_of x) ∷ []) where
  -- the texts of an item and of those behind it
  joined-on : (out : List ℕ) → IsTextLeft ts (rest (values_of ys) ∷ whole (value_of x) ∷ []) out → (first : List ℕ) × (behind : List (List ℕ)) × IsTextOf (seen ts (value_of x)) first × AreTextsOf (seen_all ts (values_of ys)) behind × (out ≡ first ++ (each_behind (codes ", ") behind ++ codes "]"))
  joined-on out h = (h.2.1, h.3.texts, h.2.3, h.3.are, h.4 ∙ (λ i. (h.2.4 ∙ ap (λ u. u ++ h.2.1) h.2.2) i ++ h.3.is i))

  open-item : new ≡ old ++ 91 ∷ [] → CanPrintAll ts (values_of (x ∷ ys)) → Writes ts (whole (items (values_of (x ∷ ys)))) old new before after
  open-item put can = record {
    first = 91 ∷ [];
    pushed = rest (values_of ys) ∷ whole (value_of x) ∷ [];
    put = put;
    waits = waits;
    text = λ out h. let j = joined-on out h in (j.0 ∷ j.1, (j.2, j.3), ap (λ u. 91 ∷ u) (j.4 ∙ sym (append_assoc j.0 (each_behind (codes ", ") j.1) (codes "]"))));
    printable = ((can.0.1, can.1.1), ((can.0.0, can.1.0), tt));
    less = omega arith;
  }

  go-on-item : new ≡ old ++ 44 ∷ 32 ∷ [] → CanPrintAll ts (values_of (x ∷ ys)) → Writes ts (rest (values_of (x ∷ ys))) old new before after
  go-on-item put can = record {
    first = 44 ∷ 32 ∷ [];
    pushed = rest (values_of ys) ∷ whole (value_of x) ∷ [];
    put = put;
    waits = waits;
    text = λ out h. let j = joined-on out h in record { texts = j.0 ∷ j.1; are = (j.2, j.3); is = ap (λ u. 44 ∷ 32 ∷ u) (j.4 ∙ sym (append_assoc j.0 (each_behind (codes ", ") j.1) (codes "]"))) };
    printable = ((can.0.1, can.1.1), ((can.0.0, can.1.0), tt));
    less = omega (arith, heavy (value_of x));
  }

  pub opens : (xs : List Value) → xs ≡ x ∷ ys → new ≡ old ++ 91 ∷ [] → CanPrintAll ts (values_of xs) → Writes ts (whole (items (values_of xs))) old new before after
  opens xs is put can = subst (λ zs. Writes ts (whole (items (values_of zs))) old new before after) (sym is) (open-item put (subst (λ zs. CanPrintAll ts (values_of zs)) is can))

  pub goes-on : (xs : List Value) → xs ≡ x ∷ ys → new ≡ old ++ 44 ∷ 32 ∷ [] → CanPrintAll ts (values_of xs) → Writes ts (rest (values_of xs)) old new before after
  goes-on xs is put can = subst (λ zs. Writes ts (rest (values_of zs)) old new before after) (sym is) (go-on-item put (subst (λ zs. CanPrintAll ts (values_of zs)) is can))

-- a certificate is written at once
pub certificate-writes : (ts : List Formula) (c : Certificate) (v : Val FormId) (old new : List ℕ) (before : List Part) → v ≡ certified c → Appends (IsTextOf (seen ts (certified c))) old new → Writes ts (whole v) old new before before
certificate-writes ts c v old new before is appends = subst (λ u. Writes ts (whole u) old new before before) (sym is) (record {
  first = appends.out;
  pushed = [];
  put = appends.put;
  waits = sym (append-nil before);
  text = λ out h. subst (IsTextOf (seen ts (certified c))) (sym (ap (λ u. appends.out ++ u) h ∙ append-nil appends.out)) appends.is;
  printable = tt;
  less = omega arith;
})
