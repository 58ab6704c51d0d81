-- What is written in several pieces.
use Rattle.std.proofs.Common.{◌≡◌, ℕ, ◌≤◌, List, [], ◌++◌, Option, Some, None, take, drop, length, length-append, length-drop, refl, sym, ap, ◌∙◌, append_assoc, arith}
use Rattle.std.specs.List.{slice_range}
use Rattle.std.proofs.lemmas.List.Folds.{drop_split}
use Rattle.std.proofs.lemmas.List.{take-append-drop, take_at, append-nil}
use Rattle.lw_io.specs.Output.{Adds, AddsPart}

-- nothing
pub adds_nothing : (w : Option (List ℕ)) → Adds w w []
adds_nothing None = refl
adds_nothing (Some x) = ap Some (sym (append-nil x))

-- two pieces, one after the other
pub adds_both : (a b c : Option (List ℕ)) (p q : List ℕ) → Adds a b p → Adds b c q → Adds a c (p ++ q)
adds_both None b c p q first second = second ∙ ap (λ w. Rattle.std.specs.Prelude.option_map (λ x. x ++ q) w) first
adds_both (Some x) b c p q first second = second ∙ ap (λ w. Rattle.std.specs.Prelude.option_map (λ x. x ++ q) w) first ∙ ap Some (append_assoc x p q)

cut_in_three : (text : List ℕ) (at end : ℕ) → at ≤ end → text ≡ (take at text ++ slice_range text at end) ++ drop end text
cut_in_three text at end le =
    sym (take-append-drop at text) ∙ ap (λ l. take at text ++ l) (drop_split text at end le) ∙ sym (append_assoc (take at text) (slice_range text at end) (drop end text))

-- the text up to a byte, and then what stands between it and a later one
pub take_up_to : (text : List ℕ) (at end : ℕ) → at ≤ end → end ≤ length text → take at text ++ slice_range text at end ≡ take end text
take_up_to text at end le within =
    let cut : text ≡ (take at text ++ slice_range text at end) ++ drop end text = cut_in_three text at end le in
    let long : length (take at text ++ slice_range text at end) ≡ end =
    omega (arith, simp length-append at (ap length cut), length-append (take at text) (slice_range text at end), length-drop end text) in
    sym (take_at (take at text ++ slice_range text at end) (drop end text) end long) ∙ ap (λ l. take end l) (sym cut)

-- a piece and then a first part of the next are a first part of the text
pub part_of_more : (a b c : Option (List ℕ)) (text : List ℕ) (at end : ℕ) → at ≤ end → Adds a b (take at text) → AddsPart b c (slice_range text at end) → AddsPart a c text
part_of_more a b c text at end le first second = (
  take at text ++ second.0,
  second.1 ++ drop end text,
  cut_in_three text at end le ∙ ap (λ l. (take at text ++ l) ++ drop end text) second.2 ∙ regroup (take at text) second.0 second.1 (drop end text),
  adds_both a b c (take at text) second.0 first second.3,
)
  where
    regroup : (p q r s : List ℕ) → (p ++ (q ++ r)) ++ s ≡ (p ++ q) ++ (r ++ s)
    regroup p q r s = simp append_assoc
