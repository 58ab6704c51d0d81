-- What is left of a value's text, part by part.
use Rattle.std.proofs.Common.{◌≡◌, ℕ, ◌+◌, ◌<◌, List, [], ◌∷◌, ◌++◌, length, refl, sym, ap, ◌∙◌, subst, append_assoc, arith}
use Rattle.std.proofs.lemmas.List.{append-nil}
use Rattle.lw_formula.specs.Formula.{Formula}
use Rattle.lw_pool.specs.declared.id.FormId.{FormId}
use Rattle.lw_value.specs.declared.text.Work.{Work}
use Rattle.lw_value.specs.Values.{Val, seen}
use Rattle.lw_value.specs.ValueTexts.{IsTextOf}
use Rattle.lw_value.specs.Private.TextsLeft.{Appends, Part, part_of, parts_of, CanPrintPart, CanPrintParts, IsTextLeft, efforts, Writes, Leads}

-- the texts of two stacks, one on the other
record Split (ts : List Formula) (below above : List Part) (out : List ℕ) : Type 0 where
  front : List ℕ
  back : List ℕ
  first : IsTextLeft ts above front
  last : IsTextLeft ts below back
  is : out ≡ front ++ back

split : (ts : List Formula) (below above : List Part) (out : List ℕ) → IsTextLeft ts (below ++ above) out → Split ts below above out
split ts [] above out h = record { front = out; back = []; first = h; last = refl; is = sym (append-nil out) }
split ts (p ∷ ps) above out h =
    let more = split ts ps above h.0 h.2 in record {
      front = more.front;
      back = more.back ++ h.1;
      first = more.first;
      last = (more.back, h.1, more.last, h.3, refl);
      is = h.4 ∙ ap (λ u. u ++ h.1) more.is ∙ append_assoc more.front more.back h.1;
    }

join : (ts : List Formula) (below above : List Part) (front back : List ℕ) → IsTextLeft ts above front → IsTextLeft ts below back → IsTextLeft ts (below ++ above) (front ++ back)
join ts [] above front back first last = subst (IsTextLeft ts above) (sym (ap (λ u. front ++ u) last ∙ append-nil front)) first
join ts (p ∷ ps) above front back first last = (front ++ last.0, last.1, join ts ps above front last.0 first last.2, last.3, ap (λ u. front ++ u) last.4 ∙ sym (append_assoc front last.0 last.1))

efforts-append : (ps qs : List Part) → efforts (ps ++ qs) ≡ efforts ps + efforts qs
efforts-append [] qs = omega arith
efforts-append (p ∷ ps) qs = omega (arith, efforts-append ps qs)

printable-both : (ts : List Formula) (ps qs : List Part) → CanPrintParts ts ps → CanPrintParts ts qs → CanPrintParts ts (ps ++ qs)
printable-both ts [] qs one other = other
printable-both ts (p ∷ ps) qs one other = (one.0, printable-both ts ps qs one.1 other)

printable-below : (ts : List Formula) (ps qs : List Part) → CanPrintParts ts (ps ++ qs) → CanPrintParts ts ps
printable-below ts [] qs can = tt
printable-below ts (p ∷ ps) qs can = (can.0, printable-below ts ps qs can.1)

printable-above : (ts : List Formula) (ps qs : List Part) → CanPrintParts ts (ps ++ qs) → CanPrintParts ts qs
printable-above ts [] qs can = can
printable-above ts (p ∷ ps) qs can = printable-above ts ps qs can.1

parts-append : (xs ys : List Work) → parts_of (xs ++ ys) ≡ parts_of xs ++ parts_of ys
parts-append [] ys = refl
parts-append (x ∷ xs) ys = ap (λ ps. part_of x ∷ ps) (parts-append xs ys)

pub finished : (ts : List Formula) (v : Val FormId) (old now : List ℕ) (left : List Work) → length left ≡ 0 → Leads ts v old now (parts_of left) → Appends (IsTextOf (seen ts v)) old now
finished ts v old now (w ∷ left) over leads = absurd (omega arith)
finished ts v old now [] over leads = record { out = leads.written; is = subst (IsTextOf (seen ts v)) (append-nil leads.written) (leads.text [] refl); put = leads.put }

-- the part on top of the stack, and what is put in its place
module _ (ts : List Formula) (v : Val FormId) (old now : List ℕ) (before rest : List Work) (w : Work) (last : before ≡ rest ++ w ∷ []) where
  stack : parts_of before ≡ parts_of rest ++ part_of w ∷ []
  stack = ap parts_of last ∙ parts-append rest (w ∷ [])

  pub top-printable : Leads ts v old now (parts_of before) → CanPrintPart ts (part_of w)
  top-printable leads = (printable-above ts (parts_of rest) (part_of w ∷ []) (subst (CanPrintParts ts) stack leads.printable)).0

  module _ (new : List ℕ) (after : List Work) (writes : Writes ts (part_of w) now new (parts_of rest) (parts_of after)) where
    text-on : (leads : Leads ts v old now (parts_of before)) → (out : List ℕ) → IsTextLeft ts (parts_of after) out → IsTextOf (seen ts v) ((leads.written ++ writes.first) ++ out)
    text-on leads out h =
        let parts = split ts (parts_of rest) writes.pushed out (subst (λ ps. IsTextLeft ts ps out) writes.waits h) in
        let top : IsTextLeft ts (part_of w ∷ []) (writes.first ++ parts.front) = ([], writes.first ++ parts.front, refl, writes.text parts.front parts.first, refl) in
        let all = leads.text ((writes.first ++ parts.front) ++ parts.back) (subst (λ ps. IsTextLeft ts ps ((writes.first ++ parts.front) ++ parts.back)) (sym stack) (join ts (parts_of rest) (part_of w ∷ []) (writes.first ++ parts.front) parts.back top parts.last)) in
        let same : leads.written ++ ((writes.first ++ parts.front) ++ parts.back) ≡ (leads.written ++ writes.first) ++ out =
        ap (λ u. leads.written ++ u) (append_assoc writes.first parts.front parts.back) ∙ sym (append_assoc leads.written writes.first (parts.front ++ parts.back)) ∙ ap (λ u. (leads.written ++ writes.first) ++ u) (sym parts.is) in
        subst (IsTextOf (seen ts v)) same all

    pub leads-on : Leads ts v old now (parts_of before) → Leads ts v old new (parts_of after)
    leads-on leads = record {
      written = leads.written ++ writes.first;
      put = writes.put ∙ ap (λ u. u ++ writes.first) leads.put ∙ append_assoc old leads.written writes.first;
      text = text-on leads;
      printable = subst (CanPrintParts ts) (sym writes.waits) (printable-both ts (parts_of rest) writes.pushed (printable-below ts (parts_of rest) (part_of w ∷ []) (subst (CanPrintParts ts) stack leads.printable)) writes.printable);
    }

    pub effort-falls : efforts (parts_of after) < efforts (parts_of before)
    effort-falls = omega (arith, ap efforts writes.waits, ap efforts stack, efforts-append (parts_of rest) writes.pushed, efforts-append (parts_of rest) (part_of w ∷ []), writes.less)
