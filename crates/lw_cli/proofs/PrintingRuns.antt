-- What a script of one print statement writes of a certificate.
use Rattle.std.proofs.Common.{◌≡◌, ℕ, List, [], ◌∷◌, ◌++◌, refl, sym, ◌∙◌, ap, subst}
use Rattle.std.proofs.lemmas.List.{append-nil}
use Rattle.lw_formula.specs.declared.logic.Logic.{Logic}
use Rattle.lw_formula.specs.Formula.{Formula}
use Rattle.lw_ast.specs.declared.function.Function.TheVariants.{Certificate}
use Rattle.lw_ast.specs.Trees as tree
use Rattle.lw_ast.specs.Trees.{Expression, Expressions}
use Rattle.lw_value.specs.Values.{Evidence, proved, refuted, Val, Vals, formula, truth, number, text, items, logic, certificate, naught, empty, item}
use Rattle.lw_value.specs.ValueTexts.{IsTextOf, IsLineOf}
use Rattle.lw_eval.specs.declared.trouble.Trouble.TheVariants.{Kind}
use Rattle.lw_eval.specs.Evaluations.{Evaluation, Got, Fails, Is, Bind}
use Rattle.lw_eval.specs.Calls.{Certifies, Decided, Calls}
use Rattle.lw_eval.specs.Expressions.{Variables, Eval, Evals}
use Rattle.lw_eval.specs.Runs.{End, Done, Nothing, Then, Step, With, Prints, Does, DoesStep, Run}
use Rattle.lw_cli.specs.Laws.{certificate_call, CertificateIsPrinted}

-- what is written is the line of the values that the expressions come to
print_writes : (line : ℕ) (es : Expressions) (env env2 : Variables) (k k2 : ℕ) (out : List ℕ) (end : End) → end ≡ Done → Does line (tree.print es) env k env2 k2 out end
    → (vs : Vals Formula) × Evals env es (Got vs) × IsLineOf vs out
print_writes line es env env2 k k2 out _ done (With.trouble fails) = absurd (cc)
print_writes line es env env2 k k2 out _ done (With.value vs is (Prints.whole short says)) = (vs, is, says)
print_writes line es env env2 k k2 out _ done (With.value vs is (Prints.part rest short says both)) = absurd (cc)
print_writes line es env env2 k k2 out _ done (With.value vs is (Prints.too_long long)) = absurd (cc)

step_writes : (line : ℕ) (es : Expressions) (env env2 : Variables) (k k2 : ℕ) (out : List ℕ) (end : End) → end ≡ Done → DoesStep (tree.at line (tree.print es)) env k env2 k2 out end
    → (vs : Vals Formula) × Evals env es (Got vs) × IsLineOf vs out
step_writes line es env env2 k k2 out _ done Step.cut = absurd (cc)
step_writes line es env env2 k k2 out _ done (Step.limit most) = absurd (cc)
step_writes line es env env2 k k2 out end done (Step.step within does) = print_writes line es env env2 _ k2 out end done does

nothing_writes : (env env2 : Variables) (k k2 : ℕ) (out : List ℕ) (end : End) → Nothing env k env2 k2 out end → out ≡ []
nothing_writes env _ k _ _ _ Nothing.nothing = refl

run_writes : (line : ℕ) (es : Expressions) (env env2 : Variables) (k k2 : ℕ) (out : List ℕ) (end : End) → end ≡ Done → Run (tree.then (tree.at line (tree.print es)) tree.over) env k env2 k2 out end
    → (vs : Vals Formula) × Evals env es (Got vs) × IsLineOf vs out
run_writes line es env env2 k k2 out end done (Then.stops first early) = absurd (early done)
run_writes line es env env2 k k2 out end done (Then.goes {env1 = mid} {k1 = m} {before = before} {after = after} first rest both) =
    let told = step_writes line es env mid k m before Done refl first in
    let same : before ≡ out = sym (append-nil before) ∙ ap (λ l. before ++ l) (sym (nothing_writes mid env2 m k2 after end rest)) ∙ sym both in
    (told.0, told.1, subst (IsLineOf told.0) same told.2)

got_same : {A : Type 0} (x y : A) → Got x ≡ Got y → x ≡ y
got_same x y is = cc

bind_got : {A B : Type 0} (first : Evaluation A → Type 0) (second : A → Evaluation B → Type 0) (r : Evaluation B) (b : B) → r ≡ Got b → Bind first second r
    → (v : A) × first (Got v) × second v (Got b)
bind_got first second _ b is (Bind.fails t) = absurd (cc)
bind_got first second r b is (Bind.goes v one other) = (v, one, subst (second v) is other)

-- what one expression and what two come to
one_evaluated : (env : Variables) (e : Expression) (vs : Vals Formula) → Evals env (tree.more e tree.none) (Got vs)
    → (v : Val Formula) × Eval env e (Got v) × (vs ≡ item v empty)
one_evaluated env e vs evaluated =
    let first = bind_got (Eval env e) (λ v. Bind (Evals env tree.none) (λ ws. Is (Got (item v ws)))) (Got vs) vs refl evaluated in
    let second = bind_got (Evals env tree.none) (λ ws. Is (Got (item first.0 ws))) (Got vs) vs refl first.2 in
    (first.0, first.1, got_same vs (item first.0 second.0) second.2 ∙ ap (item first.0) (got_same second.0 empty second.1))

two_evaluated : (env : Variables) (d e : Expression) (vs : Vals Formula) → Evals env (tree.more d (tree.more e tree.none)) (Got vs)
    → (v : Val Formula) × (w : Val Formula) × Eval env d (Got v) × Eval env e (Got w) × (vs ≡ item v (item w empty))
two_evaluated env d e vs evaluated =
    let first = bind_got (Eval env d) (λ v. Bind (Evals env (tree.more e tree.none)) (λ ws. Is (Got (item v ws)))) (Got vs) vs refl evaluated in
    let second = bind_got (Evals env (tree.more e tree.none)) (λ ws. Is (Got (item first.0 ws))) (Got vs) vs refl first.2 in
    let last = one_evaluated env e second.0 second.1 in
    (first.0, last.0, first.1, last.1, got_same vs (item first.0 second.0) second.2 ∙ ap (item first.0) last.2)

-- what `certificate` gives for a logic and a value
no_kind : {A : Type 0} (v : Val Formula) → Got v ≡ Fails Kind → A
no_kind v is = absurd (cc)

called : (l : Logic) (w v : Val Formula) → Calls Certificate (item (logic l) (item w empty)) (Got v) → (a : Formula) × (w ≡ formula a) × Decided a (Certifies l a) (Got v)
called l (formula a) v given = (a, refl, given)
called l (truth b) v given = no_kind v given
called l (number n) v given = no_kind v given
called l (text bytes) v given = no_kind v given
called l (items vs) v given = no_kind v given
called l (logic k) v given = no_kind v given
called l (certificate k b e) v given = no_kind v given
called l naught v given = no_kind v given

decided_gives : (l : Logic) (a : Formula) (r : Evaluation (Val Formula)) (v : Val Formula) → r ≡ Got v → Decided a (Certifies l a) r → Certifies l a (Got v)
decided_gives l a r v is (Decided.decided few certifies) = subst (Certifies l a) is certifies
decided_gives l a _ v is (Decided.too_large many) = absurd (cc)

certified_is : (l : Logic) (a : Formula) (r : Evaluation (Val Formula)) (v : Val Formula) → r ≡ Got v → Certifies l a r → (e : Evidence Formula) × (v ≡ certificate l a e)
certified_is l a _ v is (Certifies.by_proof P lean) = (proved P, got_same v (certificate l a (proved P)) (sym is))
certified_is l a _ v is (Certifies.by_model m w refutes bounds) = (refuted m w, got_same v (certificate l a (refuted m w)) (sym is))

certificate_evaluated : (env : Variables) (l : Logic) (e : Expression) (v : Val Formula) → Eval env (certificate_call l e) (Got v)
    → (a : Formula) × Eval env e (Got (formula a)) × Certifies l a (Got v)
certificate_evaluated env l e v evaluated =
    let call = bind_got (Evals env (tree.more (tree.logic l) (tree.more e tree.none))) (Calls Certificate) (Got v) v refl evaluated in
    let both = two_evaluated env (tree.logic l) e call.0 call.1 in
    let arguments : call.0 ≡ item (logic l) (item both.1 empty) = both.4 ∙ ap (λ u. item u (item both.1 empty)) (got_same both.0 (logic l) both.2) in
    let told = called l both.1 v (subst (λ vs. Calls Certificate vs (Got v)) arguments call.2) in
    (told.0, subst (λ w. Eval env e (Got w)) told.1 both.3, decided_gives l told.0 (Got v) v refl told.2)

-- the line of one value
line_of_one : (v : Val Formula) (out : List ℕ) → IsLineOf (item v empty) out → (t : List ℕ) × IsTextOf v t × (out ≡ t ++ 10 ∷ [])
line_of_one v out ([], texts, is) = absurd texts
line_of_one v out (t ∷ [], texts, is) = (t, texts.0, is ∙ ap (λ l. l ++ 10 ∷ []) (append-nil t))
line_of_one v out (t ∷ u ∷ us, texts, is) = absurd texts.1

pub certificate_is_printed : CertificateIsPrinted
certificate_is_printed line l e out allows =
    let written = run_writes line (tree.more (certificate_call l e) tree.none) [] allows.env 0 allows.steps out Done refl allows.run in
    let one = one_evaluated [] (certificate_call l e) written.0 written.1 in
    let given = certificate_evaluated [] l e one.0 one.1 in
    let is = certified_is l given.0 (Got one.0) one.0 refl given.2 in
    let printed = line_of_one one.0 out (subst (λ vs. IsLineOf vs out) one.2 written.2) in (
      given.0,
      given.1,
      record {
        evidence = is.0;
        certifies = subst (λ v. Certifies l given.0 (Got v)) is.1 given.2;
        text = printed.0;
        is_text = subst (λ v. IsTextOf v printed.0) is.1 printed.1;
        line = printed.2;
      },
    )
