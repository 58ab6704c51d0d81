-- Lines and words of bytes.
use Rattle.std.proofs.Common.{◌≡◌, ◌≢◌, ℕ, suc, ◌+◌, ◌-◌, ◌<◌, ◌≤◌, ◌==◌, nat_eq, not, Bool, true, false, cond, List, [], ◌∷◌, ◌++◌, length, take, drop, take_while, refl, sym, ◌∙◌, ap, subst, arith, add-one}
use Rattle.std.proofs.lemmas.Bool.Decides.{nat_tests}
use Rattle.std.proofs.lemmas.List.{take_all, length-drop, take-append-drop}
use Rattle.std.proofs.lemmas.List.Folds.{length-prefix_len}
use Rattle.std.specs.List.{prefix_len}
use Rattle.lw_cert.specs.Lines.{Whole, Cut, pieces, longer}
use Rattle.lw_cert.specs.Private.RowReading.{IsSpaceless, Ends, IsWord}
use Rattle.lw_cert.specs.Private.StageViews.{last_piece}

-- how many bytes stand before the first mark
abbrev pub before : ℕ → List ℕ → ℕ
before mark bytes = prefix_len (λ b. not (b == mark)) bytes

pub before-is : (mark : ℕ) (bytes : List ℕ) → length (take_while (λ b. not (b == mark)) bytes) ≡ before mark bytes
before-is mark bytes = length-prefix_len (λ b. not (b == mark)) bytes

pub line-first : (text : List ℕ) → before 10 text < length text → pieces text ≡ Whole (take (before 10 text) text) ∷ pieces (drop (suc (before 10 text)) text)
line-first [] h = absurd (omega arith)
line-first (b ∷ text) h =
    let Goal : Bool → Type 0 = λ t. nat_eq b 10 ≡ t → cond (not t) (1 + before 10 text) 0 < suc (length text) → cond t (Whole [] ∷ pieces text) (longer b (pieces text)) ≡ Whole (take (cond (not t) (1 + before 10 text) 0) (b ∷ text)) ∷ pieces (drop (suc (cond (not t) (1 + before 10 text) 0)) (b ∷ text)) in
    elim (nat_eq b 10) as Goal [
      | true ↦ λ is h. refl
      | false ↦ λ is h.
          let one : 1 + before 10 text ≡ suc (before 10 text) = omega arith in
          let more = line-first text (omega arith) in
          ap (longer b) more ∙ ap (λ n. Whole (take n (b ∷ text)) ∷ pieces (drop (suc n) (b ∷ text))) (sym one)
    ] refl h

pub line-last : (text : List ℕ) → length text ≤ before 10 text → pieces text ≡ last_piece text ∷ []
line-last [] h = refl
line-last (b ∷ text) h =
    let Goal : Bool → Type 0 = λ t. nat_eq b 10 ≡ t → suc (length text) ≤ cond (not t) (1 + before 10 text) 0 → cond t (Whole [] ∷ pieces text) (longer b (pieces text)) ≡ Cut (b ∷ text) ∷ [] in
    elim (nat_eq b 10) as Goal [
      | true ↦ λ is h. absurd (omega arith)
      | false ↦ λ is h. ap (longer b) (line-last text (omega arith)) ∙ last-longer text
    ] refl h
  where
    last-longer : (text : List ℕ) → longer b (last_piece text ∷ []) ≡ Cut (b ∷ text) ∷ []
    last-longer [] = refl
    last-longer (c ∷ text) = refl

pub first-line-some : (text : List ℕ) (end : ℕ) → end ≡ length (take_while (λ b. not (b == 10)) text) → end < length text
    → (length (take (length text - (end + 1)) (drop (end + 1) text)) < length text) × (pieces text ≡ Whole (take end text) ∷ pieces (take (length text - (end + 1)) (drop (end + 1) text)))
first-line-some text end is low =
    let at = is ∙ before-is 10 text in
    let rest = drop (end + 1) text in
    let short : length rest ≤ length text - (end + 1) = omega (arith, length-drop (end + 1) text) in
    let all = take_all (length text - (end + 1)) rest short in (
      let long = ap length all in omega (arith, length-drop (end + 1) text),
      line-first text (subst (λ n. n < length text) at low)
          ∙ ap (λ n. Whole (take n text) ∷ pieces (drop (suc n) text)) (sym at)
          ∙ ap (λ n. Whole (take end text) ∷ pieces (drop n text)) (sym (add-one end))
          ∙ ap (λ bytes. Whole (take end text) ∷ pieces bytes) (sym all),
    )

pub first-line-none : (text : List ℕ) (end : ℕ) → end ≡ length (take_while (λ b. not (b == 10)) text) → length text ≤ end → pieces text ≡ last_piece text ∷ []
first-line-none text end is high = line-last text (subst (λ n. length text ≤ n) (is ∙ before-is 10 text) high)

spaceless : (bytes : List ℕ) → IsSpaceless (take (before 32 bytes) bytes)
spaceless [] = tt
spaceless (b ∷ bytes) =
    let Goal : Bool → Type 0 = λ t. nat_eq b 32 ≡ t → IsSpaceless (take (cond (not t) (1 + before 32 bytes) 0) (b ∷ bytes)) in
    elim (nat_eq b 32) as Goal [
      | true ↦ λ is. tt
      | false ↦ λ is.
          let one : 1 + before 32 bytes ≡ suc (before 32 bytes) = omega arith in
          let differs : b ≢ 32 = grind (arith, nat_tests) in
          subst (λ n. IsSpaceless (take n (b ∷ bytes))) (sym one) (differs, spaceless bytes)
    ] refl

ends : (bytes : List ℕ) → Ends (drop (before 32 bytes) bytes)
ends [] = tt
ends (b ∷ bytes) =
    let Goal : Bool → Type 0 = λ t. nat_eq b 32 ≡ t → Ends (drop (cond (not t) (1 + before 32 bytes) 0) (b ∷ bytes)) in
    elim (nat_eq b 32) as Goal [
      | true ↦ λ is. let same : b ≡ 32 = grind (arith, nat_tests) in same
      | false ↦ λ is.
          let one : 1 + before 32 bytes ≡ suc (before 32 bytes) = omega arith in
          subst (λ n. Ends (drop n (b ∷ bytes))) (sym one) (ends bytes)
    ] refl

pub is-word : (bytes word next : List ℕ) (n : ℕ) → n ≡ length (take_while (λ b. not (b == 32)) bytes) → word ≡ take n bytes → next ≡ drop n bytes → IsWord (32 ∷ bytes) word next
is-word bytes word next n count is is' =
    let at = count ∙ before-is 32 bytes in
    record {
      said = ap (λ xs. 32 ∷ xs) (sym (take-append-drop n bytes) ∙ (λ i. sym is i ++ sym is' i));
      spaceless = subst IsSpaceless (ap (λ k. take k bytes) (sym at) ∙ sym is) (spaceless bytes);
      ends = subst Ends (ap (λ k. drop k bytes) (sym at) ∙ sym is') (ends bytes);
    }

-- a word before what ends it is told by the bytes
pub cut-same : (v w xs ys : List ℕ) → IsSpaceless v → IsSpaceless w → Ends xs → Ends ys → v ++ xs ≡ w ++ ys → (v ≡ w) × (xs ≡ ys)
cut-same [] [] xs ys nv nw ex ey same = (refl, same)
cut-same [] (b ∷ w) [] ys nv nw ex ey same = absurd (list-apart same)
  where
    list-apart : [] ≡ b ∷ (w ++ ys) → ⊥
    list-apart e = cc
cut-same [] (b ∷ w) (x ∷ xs) ys nv nw ex ey same = let e : x ≡ b = cc in absurd (nw.0 (sym e ∙ ex))
cut-same (a ∷ v) [] xs [] nv nw ex ey same = absurd (list-apart same)
  where
    list-apart : a ∷ (v ++ xs) ≡ [] → ⊥
    list-apart e = cc
cut-same (a ∷ v) [] xs (y ∷ ys) nv nw ex ey same = let e : a ≡ y = cc in absurd (nv.0 (e ∙ ey))
cut-same (a ∷ v) (b ∷ w) xs ys nv nw ex ey same =
    let e : a ≡ b = cc in
    let f : v ++ xs ≡ w ++ ys = cc in
    let more = cut-same v w xs ys nv.1 nw.1 ex ey f in
    ((λ i. e i ∷ more.0 i), more.1)
