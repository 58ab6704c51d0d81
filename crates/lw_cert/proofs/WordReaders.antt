-- What the readers of words need.
use Rattle.std.proofs.Common.{◌≡◌, ℕ, Result, Ok, Err, Option, None, Some, MatchOption, MatchBool, IfOk, IfErr, IsErrOf, List, Bool, true, false, sym, ◌∙◌, ap, subst}
use Rattle.std.proofs.lemmas.Bool.{false≢true}
use Rattle.std.proofs.lemmas.Slice.Eq.{bytes_eq-Decides}
use Rattle.std.specs.Str.{bytes_eq}
use Rattle.lw_formula.specs.Formula.{Formula}
use Rattle.lw_pool.specs.declared.id.FormId.{FormId}
use Rattle.lw_pool.specs.Region.{IsAt}
use Rattle.lw_read.specs.Text.{text_of}
use Rattle.lw_read.specs.Grammar.{ReadsAs}
use Rattle.lw_cert.specs.Private.StageViews.{IsReadAt}

pub ok-value : {E : Type 0} (r : Result ℕ E) (m n : ℕ) → r ≡ Ok m → r ≡ Ok n → m ≡ n
ok-value r m n e f = cc

pub no-error : {E : Type 0} (e : E) (n : ℕ) → (let r : Result ℕ E = Err e in r ≡ Ok n) → ⊥
no-error {E} e n same = let P : Result ℕ E → Type 0 = λ r. elim r as (λ v. Type 0) [ Ok k ↦ ⊥ | Err f ↦ Unit {0} ] in subst P same tt

pub same-bytes : (xs ys : List ℕ) → true ≡ bytes_eq xs ys → xs ≡ ys
same-bytes xs ys e = (bytes_eq-Decides xs ys).0 (sym e)

pub not-same : (xs ys : List ℕ) → false ≡ bytes_eq xs ys → xs ≡ ys → ⊥
not-same xs ys differs e = false≢true (differs ∙ (bytes_eq-Decides xs ys).1 e)

pub is-read : (ts : List Formula) (text : List ℕ) (a : Formula) (id : FormId) → text ≡ text_of a → ReadsAs text a → IsAt ts a id → IsReadAt ts text id
is-read ts text a id said reads at = record {
  live = at.0;
  said = said ∙ ap text_of (sym at.1);
  reads = subst (λ b. ReadsAs (text_of b) b) (sym at.1) (subst (λ xs. ReadsAs xs a) said reads);
}

-- a text that reads as one formula is no other's text
pub no-other : (text : List ℕ) (b : Formula) → ((a : Formula) → ReadsAs text a → b ≡ a) → (text ≡ text_of b → ⊥) → (a : Formula) → ReadsAs (text_of a) a → text ≡ text_of a → ⊥
no-other text b one differs a reads said = differs (said ∙ ap text_of (sym (one a (subst (λ xs. ReadsAs xs a) (sym said) reads))))

pub match-none : {X : Type 0} (o : Option X) (P : Type 0) (Q : X → Type 0) → MatchOption o P Q → o ≡ None → P
match-none o P Q m is = subst (λ p. MatchOption p P Q) is m

pub match-some : {X : Type 0} (o : Option X) (x : X) (P : Type 0) (Q : X → Type 0) → MatchOption o P Q → o ≡ Some x → Q x
match-some o x P Q m is = subst (λ p. MatchOption p P Q) is m

pub is-err-of : {X E : Type 0} (r : Result X E) (e f : E) → r ≡ Err f → f ≡ e → IsErrOf r e
is-err-of r e f is same = is ∙ ap Err same

pub not-false : (b : Bool) → b ≡ false → b ≡ true → ⊥
not-false b e f = false≢true (sym e ∙ f)

pub match-true : (b : Bool) (P Q : Type 0) → MatchBool b P Q → b ≡ true → P
match-true b P Q m is = subst (λ c. MatchBool c P Q) is m

pub match-false : (b : Bool) (P Q : Type 0) → MatchBool b P Q → b ≡ false → Q
match-false b P Q m is = subst (λ c. MatchBool c P Q) is m

pub ok-more : {X E : Type 0} (P Q : X → Type 0) → ((x : X) → P x → Q x) → (r : Result X E) → IfOk r P → IfOk r Q
ok-more P Q f (Ok x) p = f x p
ok-more P Q f (Err e) p = tt

pub err-more : {X E : Type 0} (P Q : E → Type 0) → ((e : E) → P e → Q e) → (r : Result X E) → IfErr r P → IfErr r Q
err-more P Q f (Ok x) p = tt
err-more P Q f (Err e) p = f e p
