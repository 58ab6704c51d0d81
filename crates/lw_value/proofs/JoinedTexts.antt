-- Values' texts that are written one behind another.
use Rattle.std.proofs.Common.{◌≡◌, ℕ, ◌+◌, ◌<◌, ◌≤◌, List, [], ◌∷◌, ◌++◌, length, get_or, take, codes, sym, ap, ◌∙◌, subst, append_assoc}
use Rattle.std.proofs.lemmas.List.{append-nil, take_all}
use Rattle.lw_formula.specs.Formula.{Formula}
use Rattle.lw_value.specs.declared.value.Value.{Value}
use Rattle.lw_value.specs.Values.{seen, seen_all}
use Rattle.lw_value.specs.ValueTexts.{IsTextOf, AreTextsOf, each_behind}
use Rattle.lw_value.specs.Views.{value_of, values_of}
use Rattle.lw_value.specs.Private.TextsLeft.{Appends, IsJoinOf, AreBehind}
use Rattle.lw_value.proofs.ValuesTaken.{next-taken}

each_behind-last : (separator : List ℕ) (texts : List (List ℕ)) (last : List ℕ) → each_behind separator (texts ++ last ∷ []) ≡ each_behind separator texts ++ (separator ++ last)
each_behind-last separator [] last = append-nil (separator ++ last)
each_behind-last separator (t ∷ texts) last = ap (λ u. (separator ++ t) ++ u) (each_behind-last separator texts last) ∙ sym (append_assoc (separator ++ t) (each_behind separator texts) (separator ++ last))

texts-last : (ts : List Formula) (xs : List Value) (x : Value) (texts : List (List ℕ)) (last : List ℕ) → AreTextsOf (seen_all ts (values_of xs)) texts → IsTextOf (seen ts (value_of x)) last → AreTextsOf (seen_all ts (values_of (xs ++ x ∷ []))) (texts ++ last ∷ [])
texts-last ts [] x [] last are is = (is, tt)
texts-last ts [] x (t ∷ texts) last are is = absurd are
texts-last ts (y ∷ xs) x [] last are is = absurd are
texts-last ts (y ∷ xs) x (t ∷ texts) last are is = (are.0, texts-last ts xs x texts last are.1 is)

module _ (ts : List Formula) (x : Value) (xs : List Value) where
  -- a further value is written behind a space
  pub one-behind : (i : ℕ) (v : Value) (begun now spaced new : List ℕ) → i < length xs → v ≡ get_or xs i v
      → Appends (AreBehind (codes " ") [] (seen_all ts (values_of (take i xs)))) begun now → spaced ≡ now ++ 32 ∷ [] → Appends (IsTextOf (seen ts (value_of v))) spaced new
      → Appends (AreBehind (codes " ") [] (seen_all ts (values_of (take (i + 1) xs)))) begun new
  one-behind i v begun now spaced new lt is behind space appends = record {
    out = behind.out ++ (32 ∷ appends.out);
    is = record {
      texts = behind.is.texts ++ appends.out ∷ [];
      are = subst (λ ys. AreTextsOf (seen_all ts (values_of ys)) (behind.is.texts ++ appends.out ∷ [])) (sym (next-taken xs i v lt is)) (texts-last ts (take i xs) v behind.is.texts appends.out behind.is.are appends.is);
      is = ap (λ u. u ++ (32 ∷ appends.out)) (behind.is.is ∙ append-nil (each_behind (codes " ") behind.is.texts)) ∙ sym (each_behind-last (codes " ") behind.is.texts appends.out) ∙ sym (append-nil (each_behind (codes " ") (behind.is.texts ++ appends.out ∷ [])));
    };
    put = appends.put ∙ ap (λ u. u ++ appends.out) space ∙ append_assoc now (32 ∷ []) appends.out ∙ ap (λ u. u ++ (32 ∷ appends.out)) behind.put ∙ append_assoc begun behind.out (32 ∷ appends.out);
  }

  -- the first value, and all behind it, are the values
  pub all-joined : (i : ℕ) (all : List Value) (old begun now : List ℕ) → all ≡ x ∷ xs → length xs ≤ i → Appends (IsTextOf (seen ts (value_of x))) old begun
      → Appends (AreBehind (codes " ") [] (seen_all ts (values_of (take i xs)))) begun now → Appends (IsJoinOf (codes " ") (seen_all ts (values_of all))) old now
  all-joined i all old begun now is over first behind = record {
    out = first.out ++ behind.out;
    is = record {
      texts = first.out ∷ behind.is.texts;
      are = subst (λ ys. AreTextsOf (seen_all ts (values_of ys)) (first.out ∷ behind.is.texts)) (sym is) (first.is, subst (λ ys. AreTextsOf (seen_all ts (values_of ys)) behind.is.texts) (take_all i xs over) behind.is.are);
      is = ap (λ u. first.out ++ u) (behind.is.is ∙ append-nil (each_behind (codes " ") behind.is.texts));
    };
    put = behind.put ∙ ap (λ u. u ++ behind.out) first.put ∙ append_assoc old first.out behind.out;
  }
