-- The last lines of a proof and of a model, and the rows of its worlds.
use Rattle.std.proofs.Common.{MatchOption, Option, None, Some, take, ◌≡◌, ◌≢◌, ℕ, zero, suc, ◌+◌, ◌-◌, ◌<◌, ◌≤◌, ◌^◌, List, [], ◌∷◌, ◌++◌, ◌↔◌, inl, inr, ⊎_elim, ◌⊎◌, length, map, reverse, codes, Contains, refl, sym, ◌∙◌, ap, subst, arith, add-one}
use Rattle.std.proofs.lemmas.List.{append_assoc, append-nil, length_push}
use Rattle.std.proofs.lemmas.Fmt.{decimal_injective}
use Rattle.std.specs.Fmt.{decimal}
use Rattle.std.specs.declared.alloc.Global.{Global}
use Rattle.std.specs.declared.vec.Vec.{Vec}
use Rattle.lw_formula.specs.Formula.{Formula}
use Rattle.lw_formula.specs.FiniteModel.{FiniteModel}
use Rattle.lw_formula.specs.Signed.{Signed}
use Rattle.lw_formula.proofs.ListMembers.{Contains-nil}
use Rattle.lw_pool.specs.declared.id.SignedId.{SignedId}
use Rattle.lw_pool.specs.Region.{tree_at, signed_at}
use Rattle.lw_proof.specs.Tree.{Tree, map_tree}
use Rattle.lw_proof.specs.Pooled.{proof_at, IsProofLive}
use Rattle.lw_cert.specs.declared.stage.Head.{Head}
use Rattle.lw_cert.specs.declared.stage.Step.{Step}
use Rattle.lw_cert.specs.declared.stage.Stage.{Stage}
use Rattle.lw_cert.specs.declared.stage.Stage.TheVariants as stage
use Rattle.lw_cert.specs.declared.certificate.Body.TheVariants as body
use Rattle.lw_cert.specs.declared.certificate.Certificate.{Certificate}
use Rattle.lw_cert.specs.Lines.{Line, proof_follows, model_follows, worlds_are, refuted_is, world_is, ending, nothing, Row, Whole, say, IsAllowed}
use Rattle.lw_cert.specs.Sheet.{Sheet, Content, Steps, rows_from, steps, content_lines, lines, IsRegular}
use Rattle.lw_cert.specs.Sheet as sheet
use Rattle.lw_cert.specs.Certificates.{row_at, AreRowsOf, IsContentOf}
use Rattle.lw_cert.specs.Private.LineMachine.{Start, Proving, Listing, Over, step, run, IsOnTrack}
use Rattle.lw_cert.specs.Private.RowReading.{AddsRow, ReadsRow, IsNoRow}
use Rattle.lw_cert.specs.Private.StageViews.{opening, ruled, steps_in, grown, table, Told, Blocks, Leads, IsNext, Concludes}
use Rattle.lw_cert.proofs.MachineRuns.{closing, run-append}
use Rattle.lw_cert.proofs.LineByLine.{takes, bytes_of, AreAllowed-append, whole, step-refuted, step-world}
use Rattle.lw_cert.proofs.StageLines.{told-more, steps_in-append}
use Rattle.lw_cert.proofs.LineParts.{parts-same, proof-told}
use Rattle.lw_cert.proofs.PreOrder.{grown-map, live-grown, AreLiveTrees}

rows_from-append : (n i : ℕ) (rows : List Row) (ls ms : List Line) → rows_from n i rows ls ++ ms ≡ rows_from n i rows (ls ++ ms)
rows_from-append n i [] ls ms = refl
rows_from-append n i (row ∷ rows) ls ms = ap (λ ks. world_is n i row ∷ ks) (rows_from-append n (suc i) rows ls ms)

pub rows_from-push : (n i k : ℕ) (rows : List Row) (row : Row) (ls : List Line) → i + length rows ≡ k → rows_from n i (rows ++ row ∷ []) ls ≡ rows_from n i rows (world_is n k row ∷ ls)
rows_from-push n i k [] row ls e = let same : i ≡ k = omega arith in ap (λ j. world_is n j row ∷ ls) same
rows_from-push n i k (r ∷ rows) row ls e = ap (λ ks. world_is n i r ∷ ks) (rows_from-push n (suc i) k rows row ls (omega arith))

-- what the rows tell of one kind, the worlds seen or the variables, when they are one row more
row-push : {X : Type 0} (part : Row → List X) → part (record { sees = []; names = [] }) ≡ [] → (rows : List Row) (row : Row) (i u : ℕ) (x : X) → length rows ≡ i
    → Contains (part (row_at (rows ++ row ∷ []) u)) x ↔ (Contains (part (row_at rows u)) x ⊎ ((i ≡ u) × Contains (part row) x))
row-push part none [] row zero zero x count = (λ h. inr (refl, h), λ h. ⊎_elim (λ there. absurd (Contains-nil x (subst (λ xs. Contains xs x) none there))) (λ e. e.1) h)
row-push part none [] row zero (suc u) x count = (λ h. inl h, λ h. ⊎_elim (λ there. there) (λ e. absurd (omega (arith, e.0))) h)
row-push part none [] row (suc i) u x count = absurd (omega arith)
row-push part none (r ∷ rows) row zero u x count = absurd (omega arith)
row-push part none (r ∷ rows) row (suc i) zero x count = (λ h. inl h, λ h. ⊎_elim (λ there. there) (λ e. absurd (omega (arith, e.0))) h)
row-push part none (r ∷ rows) row (suc i) (suc u) x count =
    let more = row-push part none rows row i u x (omega arith) in (
      λ h. ⊎_elim (λ there. inl there) (λ e. inr (ap suc e.0, e.1)) (more.0 h),
      λ h. more.1 (⊎_elim (λ there. inl there) (λ e. inr (omega (arith, e.0), e.1)) h),
    )

-- what the model has more, the rows have more
both-more : {A B C N P : Type 0} → A ↔ B → N ↔ (A ⊎ C) → P ↔ (B ⊎ C) → N ↔ P
both-more same new push = (
  λ h. push.1 (⊎_elim (λ a. inl (same.0 a)) (λ c. inr c) (new.0 h)),
  λ h. new.1 (⊎_elim (λ b. inl (same.1 b)) (λ c. inr c) (push.0 h)),
)

-- what one row more adds
adds-row : (i : ℕ) (rows : List Row) (row : Row) (old new : FiniteModel) → length rows ≡ i → AreRowsOf old rows → AddsRow i row old new → AreRowsOf new (rows ++ row ∷ [])
adds-row i rows row old new count are adds = λ u. record {
  relation = λ v. both-more ((are u).relation v) (adds.relation u v) (row-push (λ r. r.sees) refl rows row i u v count);
  facts = λ p. both-more ((are u).facts p) (adds.facts u p) (row-push (λ r. r.names) refl rows row i u p count);
}

-- a model without rows yet
abbrev pub bare : ℕ → FiniteModel
bare n = record { worlds = n; pairs = []; facts = [] }

pub leads-refuted : (ts : List Formula) (bytes word : List ℕ) (h : Head) (n w : ℕ) (m : FiniteModel) → bytes ≡ codes "refuted " ++ word → word ≡ decimal w → w < n → m ≡ bare n → Leads bytes ts (stage.Counted h n) ts (stage.Listing h (table m w 0))
leads-refuted ts bytes word h n w m begins is low made =
    let l = refuted_is n w in
    subst (λ k. Leads bytes ts (stage.Counted h n) ts (stage.Listing h (table k w 0))) (sym made) (
      l,
      ap Whole (sym (begins ∙ ap (λ t. codes "refuted " ++ t) is)),
      told-more ts ts (stage.Counted h n) (stage.Listing h (table (bare n) w 0)) l low
          (step-refuted n w ∙ (let same : n ≡ n - 0 = omega arith in ap (Listing n 0) same))
          (λ ls e. (
            e.0,
            omega arith,
            low,
            (
              [],
              refl,
              λ u. record { relation = λ v. (λ k. absurd (Contains-nil (u, v) k), λ k. absurd (Contains-nil v k)); facts = λ p. (λ k. absurd (Contains-nil (u, p) k), λ k. absurd (Contains-nil p k)) },
              ap (λ ks. ks ++ l ∷ []) e.1,
            ),
          )),
    )

pub leads-row : (ts : List Formula) (bytes : List ℕ) (h : Head) (m m' : FiniteModel) (r i : ℕ) → i < m.worlds → ReadsRow i bytes m m' → Leads bytes ts (stage.Listing h (table m r i)) ts (stage.Listing h (table m' r (i + 1)))
leads-row ts bytes h m m' r i low reads =
    let l = world_is m.worlds i reads.row in
    let same : m'.worlds ≡ m.worlds = reads.adds.worlds in
    let left : m.worlds - i ≡ suc (m.worlds - suc i) = omega arith in (
      l,
      ap Whole (sym reads.said),
      told-more ts ts (stage.Listing h (table m r i)) (stage.Listing h (table m' r (i + 1))) l reads.is
          (ap (λ k. step l (Listing m.worlds i k)) left ∙ step-world m.worlds i (m.worlds - suc i) reads.row
          ∙ (λ j. Listing m.worlds (sym (add-one i) j) (m.worlds - sym (add-one i) j)) ∙ ap (λ n. Listing n (i + 1) (n - (i + 1))) (sym same))
          (λ ls e.
          let count : length e.3.0 ≡ i = e.3.1 in (
            e.0,
            omega (arith, same),
            omega (arith, same, e.2),
            (
              e.3.0 ++ reads.row ∷ [],
              length_push e.3.0 reads.row ∙ ap (λ k. k + 1) count,
              adds-row i e.3.0 reads.row m m' count e.3.2 reads.adds,
              ap (λ ks. ks ++ l ∷ []) e.3.3
                  ∙ ap (λ ks. opening ts h (model_follows ∷ worlds_are m.worlds ∷ refuted_is m.worlds r ∷ ks))
                  (rows_from-append m.worlds 0 e.3.0 [] (l ∷ []) ∙ sym (rows_from-push m.worlds 0 i e.3.0 reads.row [] (omega (arith, count))))
                  ∙ ap (λ n. opening ts h (model_follows ∷ worlds_are n ∷ refuted_is n r ∷ rows_from n 0 (e.3.0 ++ reads.row ∷ []) [])) (sym same),
            ),
          )),
    )

pub blocks-row : (bytes : List ℕ) (n i : ℕ) → i < n → IsNoRow n i bytes → Blocks (Whole bytes) (Listing n i (n - i))
blocks-row bytes n i low none l said allowed on =
    let left : n - i ≡ suc (n - suc i) = omega arith in
    let is = takes l (Listing n i (suc (n - suc i))) (subst (λ k. IsOnTrack (step l (Listing n i k))) left on) in
    none is.0 (subst IsAllowed is.1 allowed) (ap bytes_of (sym said ∙ ap say is.1))

pub blocks-listed : (bytes : List ℕ) (n i : ℕ) → n ≤ i → bytes ≢ codes "end" → Blocks (Whole bytes) (Listing n i (n - i))
blocks-listed bytes n i high differs l said allowed on =
    let left : n - i ≡ zero = omega arith in
    differs (ap bytes_of (sym said ∙ ap say (takes l (Listing n i zero) (subst (λ k. IsOnTrack (step l (Listing n i k))) left on))))

pub leads-listed : (ts : List Formula) (bytes : List ℕ) (h : Head) (m : FiniteModel) (r i : ℕ) → m.worlds ≤ i → bytes ≡ codes "end"
    → Leads bytes ts (stage.Listing h (table m r i)) ts (stage.Ended (record { logic = h.logic; formula = h.formula; body = body.Refuted m r }))
leads-listed ts bytes h m r i high is =
    let left : m.worlds - i ≡ zero = omega arith in
    let c : Certificate = record { logic = h.logic; formula = h.formula; body = body.Refuted m r } in (
      ending,
      ap Whole (sym is),
      told-more ts ts (stage.Listing h (table m r i)) (stage.Ended c) ending tt (ap (λ k. step ending (Listing m.worlds i k)) left)
          (λ ls e.
          let rows = e.3.0 in
          let count : m.worlds ≡ length rows = let low = e.1 in let long = e.3.1 in omega arith in
          let s : Sheet = record { logic = h.logic; formula = tree_at ts h.formula; content = sheet.Table r rows } in (
            s,
            record { logic = refl; formula = (e.0, refl); content = (refl, e.2, count, e.3.2) },
            tt,
            append_assoc ls (ending ∷ []) (nothing ∷ []) ∙ ap (λ ks. ks ++ closing) e.3.3
                ∙ ap (λ ks. opening ts h (model_follows ∷ worlds_are m.worlds ∷ refuted_is m.worlds r ∷ ks)) (rows_from-append m.worlds 0 rows [] closing)
                ∙ ap (λ n. opening ts h (model_follows ∷ worlds_are n ∷ refuted_is n r ∷ rows_from n 0 rows closing)) count,
          )),
    )

-- at the end of its steps a proof's lines are those of a certificate, whose proof the steps make
record IsProvedBy (ts : List Formula) (h : Head) (ss : List Step) (ls : List Line) : Type 0 where
  pub paper : Sheet
  pub regular : IsRegular paper.content
  pub lines_are : ls ++ closing ≡ lines paper
  pub logic : h.logic ≡ paper.logic
  pub formula : tree_at ts h.formula ≡ paper.formula
  pub proof : Tree Signed
  pub content : paper.content ≡ Steps proof
  pub made : map (map_tree (signed_at ts)) (grown (map ruled ss) []) ≡ proof ∷ []

proved-by : (ts : List Formula) (h : Head) (depths : Vec ℕ Global) (steps : Vec Step Global) (ls : List Line) → reverse depths.items ≡ [] → Told ts (stage.Proving h depths steps) ls → IsProvedBy ts h steps.items ls
proved-by ts h depths steps ls none told =
    let over : run (ls ++ closing) Start ≡ Over = run-append ls closing Start ∙ ap (run closing) (told.ran ∙ ap Proving none) in
    let c = whole (ls ++ closing) over in
    let tail = told.tells.2.0 in
    let same : opening ts h (proof_follows ∷ (tail ++ closing)) ≡ lines c.0 = sym (ap (λ ks. ks ++ closing) told.tells.2.1) ∙ c.2 in
    let parts = parts-same h.logic c.0.logic (tree_at ts h.formula) c.0.formula (proof_follows ∷ (tail ++ closing)) (content_lines c.0.content) same in
    let proof = proof-told c.0.content (tail ++ closing) c.1 (sym parts.2) in
    record {
      paper = c.0;
      regular = c.1;
      lines_are = c.2;
      logic = parts.0;
      formula = parts.1;
      proof = proof.0;
      content = proof.1;
      made =
          sym (grown-map ts steps.items)
          ∙ ap (λ qs. grown qs []) (sym told.tells.2.2 ∙ sym (append-nil (steps_in tail)) ∙ sym (steps_in-append tail closing))
          ∙ proof.2;
    }

-- there is a proof, whatever stands in the pool
pub some-proof : (ts : List Formula) (h : Head) (depths : Vec ℕ Global) (steps : Vec Step Global) (ls : List Line) → reverse depths.items ≡ [] → Told ts (stage.Proving h depths steps) ls → grown (map ruled steps.items) [] ≡ [] → ⊥
some-proof ts h depths steps ls none told e =
    let by = proved-by ts h depths steps ls none told in
    let no-proof : [] ≡ by.proof ∷ [] = sym (ap (map (map_tree (signed_at ts))) e) ∙ by.made in
    apart by.proof no-proof
  where
    apart : (t : Tree Signed) → [] ≡ t ∷ [] → ⊥
    apart t e = cc

pub leads-proved : (ts : List Formula) (bytes : List ℕ) (h : Head) (depths : Vec ℕ Global) (steps : Vec Step Global) (P : Tree SignedId) (Ps : List (Tree SignedId)) → reverse depths.items ≡ [] → grown (map ruled steps.items) [] ≡ P ∷ Ps → bytes ≡ codes "end"
    → Leads bytes ts (stage.Proving h depths steps) ts (stage.Ended (record { logic = h.logic; formula = h.formula; body = body.Proved P }))
leads-proved ts bytes h depths steps P Ps none made is =
    let c : Certificate = record { logic = h.logic; formula = h.formula; body = body.Proved P } in (
      ending,
      ap Whole (sym is),
      λ ls told.
          let by = proved-by ts h depths steps ls none told in
          let first : proof_at ts P ≡ by.proof = head-same (proof_at ts P) by.proof (map (map_tree (signed_at ts)) Ps) (sym (ap (map (map_tree (signed_at ts))) made) ∙ by.made) in
          let live : IsProofLive ts P = (subst (AreLiveTrees ts) made (live-grown ts steps.items told.tells.1)).0 in
          let content : IsContentOf ts (body.Proved P) (Steps by.proof) = (live, sym first) in
          record {
            ran = run-append ls (ending ∷ []) Start ∙ ap (λ s. step ending s) (told.ran ∙ ap Proving none);
            allowed = AreAllowed-append ls (ending ∷ []) told.allowed (tt, tt);
            tells = (
              by.paper,
              record { logic = by.logic; formula = (told.tells.0, by.formula); content = subst (IsContentOf ts (body.Proved P)) (sym by.content) content },
              by.regular,
              append_assoc ls (ending ∷ []) (nothing ∷ []) ∙ by.lines_are,
            );
          },
    )
  where
    head-same : (t u : Tree Signed) (ts : List (Tree Signed)) → t ∷ ts ≡ u ∷ [] → t ≡ u
    head-same t u ts e = cc

-- what a proof's `end` leads to
pub next-proved : (ts : List Formula) (bytes : List ℕ) (h : Head) (depths : Vec ℕ Global) (steps : Vec Step Global) (o : Option Stage) → depths.items ≡ [] → bytes ≡ codes "end"
    → MatchOption o (grown (map ruled steps.items) [] ≡ []) (Concludes h steps.items) → IsNext bytes ts (stage.Proving h depths steps) ts o
next-proved ts bytes h depths steps None none is made = λ ls told. absurd (some-proof ts h depths steps ls (ap reverse none) told made)
next-proved ts bytes h depths steps (Some to) none is made =
    subst (λ t. Leads bytes ts (stage.Proving h depths steps) ts t) (sym made.3) (leads-proved ts bytes h depths steps made.0 made.1 (ap reverse none) made.2 is)

pub none-popped : {X : Type 0} (n : ℕ) (old new : List X) → old ≡ new ++ [] → new ≡ take (n - 1) old → n ≡ 0 → old ≡ []
none-popped n old new is taken zero-long = let none : n - 1 ≡ 0 = omega arith in is ∙ append-nil new ∙ taken ∙ ap (λ k. take k old) none

-- no number that is too small
pub too-few : (k n : ℕ) (word : List ℕ) → word ≡ decimal k → k < 1 → 1 ≤ n → n < 2 ^ 64 → word ≢ decimal n
too-few k n word is low high small same = let e : k ≡ n = decimal_injective k n (omega (arith, low)) small (sym is ∙ same) in absurd (omega arith)

-- nor one that is too great
pub too-many : (k n w : ℕ) (word : List ℕ) → word ≡ decimal k → k < 2 ^ 64 → n < 2 ^ 64 → n ≤ k → w < n → word ≢ decimal w
too-many k n w word is small small' high low same = let e : k ≡ w = decimal_injective k w small (omega arith) (sym is ∙ same) in absurd (omega arith)
