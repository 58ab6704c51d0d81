-- Which line leads from one stage to the next, and which lines don't.
use Rattle.std.proofs.Common.{◌≡◌, ◌≢◌, ℕ, suc, ◌<◌, ◌≤◌, ◌^◌, List, [], ◌∷◌, ◌++◌, map, reverse, replicate, codes, refl, sym, ◌∙◌, ap, subst, arith, inl, inr}
use Rattle.std.proofs.lemmas.List.{append_cancel_left, map-append}
use Rattle.std.specs.Fmt.{decimal}
use Rattle.std.specs.declared.alloc.Global.{Global}
use Rattle.std.specs.declared.vec.Vec.{Vec}
use Rattle.lw_formula.specs.declared.logic.Logic.{Logic}
use Rattle.lw_formula.specs.declared.sign.Sign.{Sign}
use Rattle.lw_formula.specs.Formula.{Formula}
use Rattle.lw_formula.specs.Logic.{word_of}
use Rattle.lw_formula.specs.Signed.{Signed}
use Rattle.lw_pool.specs.declared.id.FormId.{FormId}
use Rattle.lw_pool.specs.Region.{tree_at, Grows}
use Rattle.lw_proof.specs.declared.rule.Rule.{Rule}
use Rattle.lw_proof.specs.Break.{arity}
use Rattle.lw_read.specs.Text.{text_of}
use Rattle.lw_read.specs.Grammar.{ReadsAs}
use Rattle.lw_cert.specs.declared.stage.Head.{Head}
use Rattle.lw_cert.specs.declared.stage.Step.{Step}
use Rattle.lw_cert.specs.declared.stage.Stage.{Stage}
use Rattle.lw_cert.specs.declared.stage.Stage.TheVariants as stage
use Rattle.lw_cert.specs.Lines.{Line, heading, logic_is, formula_is, proof_follows, step_is, model_follows, worlds_are, refuted_is, world_is, ending, nothing, Piece, Whole, say, rule_word, sign_word, IsAllowed, depth_limit}
use Rattle.lw_cert.specs.Private.LineMachine.{Start, Headed, Chosen, Named, Proving, Sizing, Sized, Ended, step}
use Rattle.lw_cert.specs.Private.StageViews.{IsReadAt, state_of, opening, shown, steps_in, AreLiveSteps, Tells, Told, Blocks, Leads}
use Rattle.lw_cert.proofs.LineByLine.{Takes, takes, bytes_of, AreAllowed-append, step-step}
use Rattle.lw_cert.proofs.MachineRuns.{run-append}

-- one line on: the state by the machine, and what the new stage tells
pub told-more : (old new : List Formula) (from to : Stage) (l : Line) → IsAllowed l → step l (state_of from) ≡ state_of to → ((ls : List Line) → Tells old from ls → Tells new to (ls ++ l ∷ [])) → (ls : List Line) → Told old from ls → Told new to (ls ++ l ∷ [])
told-more old new from to l allowed steps tells ls told = record {
  ran = run-append ls (l ∷ []) Start ∙ ap (step l) told.ran ∙ steps;
  allowed = AreAllowed-append ls (l ∷ []) told.allowed (allowed, tt);
  tells = tells ls told.tells;
}

pub leads-start : (ts : List Formula) (bytes : List ℕ) → bytes ≡ codes "certificate 1" → Leads bytes ts stage.Start ts stage.Headed
leads-start ts bytes is = (heading, ap Whole (sym is), told-more ts ts stage.Start stage.Headed heading tt refl (λ ls e. ap (λ ks. ks ++ heading ∷ []) e))

pub blocks-start : (bytes : List ℕ) → bytes ≢ codes "certificate 1" → Blocks (Whole bytes) Start
blocks-start bytes differs l said allowed on = differs (ap bytes_of (sym said ∙ ap say (takes l Start on)))

pub leads-headed : (ts : List Formula) (bytes word : List ℕ) (L : Logic) → bytes ≡ codes "logic " ++ word → word ≡ word_of L → Leads bytes ts stage.Headed ts (stage.Chosen L)
leads-headed ts bytes word L is named =
    (logic_is L, ap Whole (sym (is ∙ ap (λ w. codes "logic " ++ w) named)), told-more ts ts stage.Headed (stage.Chosen L) (logic_is L) tt refl (λ ls e. ap (λ ks. ks ++ logic_is L ∷ []) e))

pub blocks-headed : (bytes : List ℕ) → ((rest : List ℕ) → bytes ≢ codes "logic " ++ rest) → Blocks (Whole bytes) Headed
blocks-headed bytes differs l said allowed on =
    let is = takes l Headed on in differs (word_of is.0) (ap bytes_of (sym said ∙ ap say is.1))

pub blocks-logic : (bytes word : List ℕ) → bytes ≡ codes "logic " ++ word → ((L : Logic) → word ≢ word_of L) → Blocks (Whole bytes) Headed
blocks-logic bytes word begins differs l said allowed on =
    let is = takes l Headed on in
    differs is.0 (append_cancel_left (codes "logic ") word (word_of is.0) (sym begins ∙ ap bytes_of (sym said ∙ ap say is.1)))

pub leads-chosen : (old new : List Formula) (bytes text : List ℕ) (L : Logic) (id : FormId) → bytes ≡ codes "formula " ++ text → IsReadAt new text id → Leads bytes old (stage.Chosen L) new (stage.Named (record { logic = L; formula = id }))
leads-chosen old new bytes text L id begins read =
    let h : Head = record { logic = L; formula = id } in (
      formula_is (tree_at new id),
      ap Whole (sym (begins ∙ ap (λ t. codes "formula " ++ t) read.said)),
      told-more old new (stage.Chosen L) (stage.Named h) (formula_is (tree_at new id)) read.reads refl (λ ls e. (read.live, ap (λ ks. ks ++ formula_is (tree_at new id) ∷ []) e)),
    )

pub blocks-chosen : (bytes : List ℕ) → ((rest : List ℕ) → bytes ≢ codes "formula " ++ rest) → Blocks (Whole bytes) Chosen
blocks-chosen bytes differs l said allowed on =
    let is = takes l Chosen on in differs (text_of is.0) (ap bytes_of (sym said ∙ ap say is.1))

pub blocks-formula : (bytes text : List ℕ) → bytes ≡ codes "formula " ++ text → ((a : Formula) → ReadsAs (text_of a) a → text ≢ text_of a) → Blocks (Whole bytes) Chosen
blocks-formula bytes text begins differs l said allowed on =
    let is = takes l Chosen on in
    differs is.0 (subst IsAllowed is.1 allowed) (append_cancel_left (codes "formula ") text (text_of is.0) (sym begins ∙ ap bytes_of (sym said ∙ ap say is.1)))

pub leads-proof : (ts : List Formula) (bytes : List ℕ) (h : Head) (depths : Vec ℕ Global) (steps : Vec Step Global) → depths.items ≡ 1 ∷ [] → steps.items ≡ [] → bytes ≡ codes "proof" → Leads bytes ts (stage.Named h) ts (stage.Proving h depths steps)
leads-proof ts bytes h depths steps one none is = (
  proof_follows,
  ap Whole (sym is),
  told-more ts ts (stage.Named h) (stage.Proving h depths steps) proof_follows tt (ap (λ ds. Proving (reverse ds)) (sym one))
      (λ ls e. (e.0, subst (AreLiveSteps ts) (sym none) tt, ([], ap (λ ks. ks ++ proof_follows ∷ []) e.1, ap (map (shown ts)) (sym none)))),
)

pub leads-model : (ts : List Formula) (bytes : List ℕ) (h : Head) → bytes ≡ codes "model" → Leads bytes ts (stage.Named h) ts (stage.Sizing h)
leads-model ts bytes h is =
    (model_follows, ap Whole (sym is), told-more ts ts (stage.Named h) (stage.Sizing h) model_follows tt refl (λ ls e. (e.0, ap (λ ks. ks ++ model_follows ∷ []) e.1)))

pub blocks-named : (bytes : List ℕ) → bytes ≢ codes "proof" → bytes ≢ codes "model" → Blocks (Whole bytes) Named
blocks-named bytes differs differs' l said allowed on = of (takes l Named on)
  where
    of : Takes Named l → ⊥
    of (inl is) = differs (ap bytes_of (sym said ∙ ap say is))
    of (inr is) = differs' (ap bytes_of (sym said ∙ ap say is))

pub leads-worlds : (ts : List Formula) (bytes word : List ℕ) (h : Head) (n : ℕ) → bytes ≡ codes "worlds " ++ word → word ≡ decimal n → 1 ≤ n → n < 2 ^ 64 → Leads bytes ts (stage.Sizing h) ts (stage.Counted h n)
leads-worlds ts bytes word h n begins is low high = (
  worlds_are n,
  ap Whole (sym (begins ∙ ap (λ t. codes "worlds " ++ t) is)),
  told-more ts ts (stage.Sizing h) (stage.Counted h n) (worlds_are n) (low, high) refl (λ ls e. (e.0, ap (λ ks. ks ++ worlds_are n ∷ []) e.1)),
)

pub blocks-sizing : (bytes : List ℕ) → ((rest : List ℕ) → bytes ≢ codes "worlds " ++ rest) → Blocks (Whole bytes) Sizing
blocks-sizing bytes differs l said allowed on =
    let is = takes l Sizing on in differs (decimal is.0) (ap bytes_of (sym said ∙ ap say is.1))

pub blocks-worlds : (bytes word : List ℕ) → bytes ≡ codes "worlds " ++ word → ((n : ℕ) → 1 ≤ n → n < 2 ^ 64 → word ≢ decimal n) → Blocks (Whole bytes) Sizing
blocks-worlds bytes word begins differs l said allowed on =
    let is = takes l Sizing on in
    let kept = subst IsAllowed is.1 allowed in
    differs is.0 kept.0 kept.1 (append_cancel_left (codes "worlds ") word (decimal is.0) (sym begins ∙ ap bytes_of (sym said ∙ ap say is.1)))

pub blocks-sized : (bytes : List ℕ) (n : ℕ) → ((rest : List ℕ) → bytes ≢ codes "refuted " ++ rest) → Blocks (Whole bytes) (Sized n)
blocks-sized bytes n differs l said allowed on =
    let is = takes l (Sized n) on in differs (decimal is.0) (ap bytes_of (sym said ∙ ap say is.1))

pub blocks-refuted : (bytes word : List ℕ) (n : ℕ) → bytes ≡ codes "refuted " ++ word → ((w : ℕ) → w < n → word ≢ decimal w) → Blocks (Whole bytes) (Sized n)
blocks-refuted bytes word n begins differs l said allowed on =
    let is = takes l (Sized n) on in
    differs is.0 (subst IsAllowed is.1 allowed) (append_cancel_left (codes "refuted ") word (decimal is.0) (sym begins ∙ ap bytes_of (sym said ∙ ap say is.1)))

pub blocks-ended : (bytes : List ℕ) → Blocks (Whole bytes) Ended
blocks-ended bytes l said allowed on =
    let is = takes l Ended on in
    let no-stop : (p : Piece) → p ≡ say nothing → p ≡ Whole bytes → ⊥ = λ p e f. cc in
    no-stop (say l) (ap say is) said

-- the steps behind the last of `proof`'s
pub steps_in-append : (ls ms : List Line) → steps_in (ls ++ ms) ≡ steps_in ls ++ steps_in ms
steps_in-append [] ms = refl
steps_in-append (step_is d r s ∷ ls) ms = ap (λ qs. (r, s) ∷ qs) (steps_in-append ls ms)
steps_in-append (heading ∷ ls) ms = steps_in-append ls ms
steps_in-append (logic_is L ∷ ls) ms = steps_in-append ls ms
steps_in-append (formula_is a ∷ ls) ms = steps_in-append ls ms
steps_in-append (proof_follows ∷ ls) ms = steps_in-append ls ms
steps_in-append (model_follows ∷ ls) ms = steps_in-append ls ms
steps_in-append (worlds_are n ∷ ls) ms = steps_in-append ls ms
steps_in-append (refuted_is n w ∷ ls) ms = steps_in-append ls ms
steps_in-append (world_is n w row ∷ ls) ms = steps_in-append ls ms
steps_in-append (ending ∷ ls) ms = steps_in-append ls ms
steps_in-append (nothing ∷ ls) ms = steps_in-append ls ms

-- in a pool that has grown the steps show the same
shown-grows : (old new : List Formula) → Grows old new → (ss : List Step) → AreLiveSteps old ss → map (shown new) ss ≡ map (shown old) ss
shown-grows old new g [] live = refl
shown-grows old new g (s ∷ ss) live = λ i. (s.rule, (s.principal.sign, g.same s.principal.form live.0 i)) ∷ shown-grows old new g ss live.1 i

live-grows : (old new : List Formula) → Grows old new → (ss : List Step) → AreLiveSteps old ss → AreLiveSteps new ss
live-grows old new g [] live = tt
live-grows old new g (s ∷ ss) live = (omega (arith, g.longer, live.0), live-grows old new g ss live.1)

AreLiveSteps-append : (ts : List Formula) (ss us : List Step) → AreLiveSteps ts ss → AreLiveSteps ts us → AreLiveSteps ts (ss ++ us)
AreLiveSteps-append ts [] us live live' = live'
AreLiveSteps-append ts (s ∷ ss) us live live' = (live.0, AreLiveSteps-append ts ss us live.1 live')

opening-append : (ts : List Formula) (h : Head) (ls ms : List Line) → opening ts h ls ++ ms ≡ opening ts h (ls ++ ms)
opening-append ts h ls ms = refl

-- a step's line
pub leads-step : (old new : List Formula) (bytes text : List ℕ) (h : Head) (depths depths' : Vec ℕ Global) (steps steps' : Vec Step Global) (d : ℕ) (ds : List ℕ) (r : Rule) (sign : Sign) (id : FormId)
    → Grows old new → bytes ≡ rule_word r ++ (sign_word sign ++ text) → IsReadAt new text id → d ≤ depth_limit
    → reverse depths.items ≡ d ∷ ds → reverse depths'.items ≡ replicate (arity r) (suc d) ++ ds
    → steps'.items ≡ steps.items ++ record { rule = r; principal = record { sign = sign; form = id } } ∷ []
    → Leads bytes old (stage.Proving h depths steps) new (stage.Proving h depths' steps')
leads-step old new bytes text h depths depths' steps steps' d ds r sign id grows said read low top top' more =
    let s : Signed = (sign, tree_at new id) in
    let l = step_is d r s in (
      l,
      ap Whole (sym (said ∙ ap (λ t. rule_word r ++ (sign_word sign ++ t)) read.said)),
      told-more old new (stage.Proving h depths steps) (stage.Proving h depths' steps') l (low, read.reads)
          (ap (λ es. step l (Proving es)) top ∙ step-step d ds r s ∙ ap Proving (sym top'))
          (λ ls e. (
            omega (arith, grows.longer, e.0),
            subst (AreLiveSteps new) (sym more) (AreLiveSteps-append new steps.items _ (live-grows old new grows steps.items e.1) (read.live, tt)),
            (
              e.2.0 ++ l ∷ [],
              ap (λ ks. ks ++ l ∷ []) e.2.1 ∙ ap (λ a. heading ∷ logic_is h.logic ∷ formula_is a ∷ proof_follows ∷ (e.2.0 ++ l ∷ [])) (sym (grows.same h.formula e.0)),
              steps_in-append e.2.0 (l ∷ []) ∙ ap (λ qs. qs ++ (r, s) ∷ []) (e.2.2 ∙ sym (shown-grows old new grows steps.items e.1)) ∙ sym (map-append (shown new) steps.items _) ∙ ap (map (shown new)) (sym more),
            ),
          )),
    )

-- no step is there to come
pub blocks-done : (bytes : List ℕ) → bytes ≢ codes "end" → Blocks (Whole bytes) (Proving [])
blocks-done bytes differs l said allowed on = differs (ap bytes_of (sym said ∙ ap say (takes l (Proving []) on)))

pub blocks-rule : (bytes : List ℕ) (d : ℕ) (ds : List ℕ) → ((r : Rule) (rest : List ℕ) → bytes ≢ rule_word r ++ rest) → Blocks (Whole bytes) (Proving (d ∷ ds))
blocks-rule bytes d ds differs l said allowed on =
    let is = takes l (Proving (d ∷ ds)) on in differs is.0 _ (ap bytes_of (sym said ∙ ap say is.2))
