-- Steps whose sets and proofs are given by ids of a pool, which grows as their lines are put into a table.
use Rattle.std.proofs.Common.{◌≡◌, ◌≢◌, ℕ, ◌<◌, List, [], ◌∷◌, ◌++◌, length, map, get_or, refl, sym, ap, subst, ◌∙◌, arith}
use Rattle.std.specs.List.{All, AllZip, Contains}
use Rattle.std.proofs.lemmas.Option.{slice_get_within}
use Rattle.std.proofs.lemmas.List.{length-map, map-append, get_or-map}
use Rattle.std.proofs.lemmas.List.Elements.{All-nil, All-cons, All-push}
use Rattle.lw_formula.specs.declared.logic.Logic.{Logic}
use Rattle.lw_formula.specs.declared.sign.Sign.TheVariants.{F}
use Rattle.lw_formula.specs.Formula.{Formula}
use Rattle.lw_formula.specs.Signed.{Signed, SignedSet}
use Rattle.lw_formula.specs.Components.{parts_of}
use Rattle.lw_pool.specs.declared.id.SignedId.{SignedId}
use Rattle.lw_pool.specs.Region.{IsLive, Grows, signed_at}
use Rattle.lw_pool.proofs.RegionGrowth.{Grows-same}
use Rattle.lw_proof.specs.declared.rule.Rule.{Rule}
use Rattle.lw_proof.specs.Tree.{Tree, Forest, node, none, more, forest, listed, rule_of, principal_of, subs_of, EachOfAll}
use Rattle.lw_proof.specs.System.{trees}
use Rattle.lw_proof.specs.Derivation.{premises, Derives}
use Rattle.lw_proof.specs.Pooled.{proof_at, IsProofLive}
use Rattle.lw_proof.proofs.FirstSubproofs.{forest_mapped, each_first}
use Rattle.lw_sets.specs.IdSets.{among, set_of, AreLive}
use Rattle.lw_sets.proofs.GrownPools.{signed_grows, listed_grows, proof_grows, IsLive_grows, AreLive_grows}
use Rattle.lw_share.specs.Lines.{Line}
use Rattle.lw_share.specs.Pooled.{line_of, line_at, table_at, IsLineLive, IsTableLive}
use Rattle.lw_share.specs.SharedProofs.{set_in, line_sets}
use Rattle.lw_share.specs.Private.PremiseLists.{ArePremises}
use Rattle.lw_share.specs.Private.SharedSteps.{IsLineOf, Enters, known, behind, Puts, PutsProof}
use Rattle.lw_share.specs.Private.SharedSubproofs.{DerivesEach, PutsEach, PutsSubproofs}
use Rattle.lw_share.proofs.CitedLines.{at_number}
use Rattle.lw_share.proofs.HeldLines.{table_grows}
use Rattle.lw_share.proofs.PutSteps.{known_put, behind_put, closed_each}

-- a proof is its first step over its subproofs
begun : (ts : List Formula) (P : Tree SignedId) →
    proof_at ts P ≡ node (rule_of P) (signed_at ts (principal_of P)) (forest (map (proof_at ts) (subs_of P)))
begun ts (node r x f) = ap (node r (signed_at ts x)) (forest_mapped (signed_at ts) f)

-- the lines that have sets are lines of the table
numbered : (table : List (Line Signed)) (cites : List ℕ) (Xs : List SignedSet) → AllZip (IsLineOf table) cites Xs →
    All (λ c. c < length table) cites
numbered table [] [] z = All-nil (λ c. c < length table)
numbered table [] (X ∷ Xs) z = absurd z
numbered table (c ∷ cs) [] z = absurd z
numbered table (c ∷ cs) (X ∷ Xs) z =
    All-cons (λ k. k < length table) c cs (slice_get_within table c z.0.0 z.0.1) (numbered table cs Xs z.1)

-- no line has a set that no line has by its number
absent_set : (ts : List Formula) (table : List (Line SignedId)) (X : SignedSet) →
    ((i : ℕ) → i < length table → set_of ts (line_of table i).members ≢ X) → ¬ Contains (line_sets (table_at ts table)) X
absent_set ts table X away (i, short, e) =
    let below : i < length table = omega (arith, short, length-map (table_at ts table) set_in, length-map table (line_at ts)) in
    let unset : Line SignedId =
    record { members = []; rule = Rule.Close; principal = record { sign = F; form = record { 0 = 0 } }; cites = [] }
    in
    away i below
    (sym (get_or-map (λ (l : Line SignedId). set_in (line_at ts l)) table i unset X below)
    ∙ ap (λ (Ys : List SignedSet). get_or Ys i X) (sym (sets_mapped table))
    ∙ e)
  where
    sets_mapped : (ls : List (Line SignedId)) → line_sets (table_at ts ls) ≡ map (λ (l : Line SignedId). set_in (line_at ts l)) ls
    sets_mapped [] = refl
    sets_mapped (l ∷ ls) = ap (λ (Ys : List SignedSet). set_in (line_at ts l) ∷ Ys) (sets_mapped ls)

module _ (before now : List Formula) (grown : Grows before now) where
  set_grows : (xs : List SignedId) → AreLive before xs → set_of now xs ≡ set_of before xs
  set_grows xs l = ap among (listed_grows before now grown xs l)

  listed_grow : (f : Forest SignedId) → EachOfAll (λ (s : SignedId). IsLive before s.form) f →
      map (proof_at now) (listed f) ≡ map (proof_at before) (listed f)
  listed_grow none l = refl
  listed_grow (more t ts) l = λ i. proof_grows before now grown t l.0 i ∷ listed_grow ts l.1 i

  subs_grow : (P : Tree SignedId) → IsProofLive before P → map (proof_at now) (subs_of P) ≡ map (proof_at before) (subs_of P)
  subs_grow (node r x f) l = listed_grow f l.1

  module _ (L : Logic) (xs : List SignedId) (xs_live : AreLive before xs) (P : Tree SignedId) (P_live : IsProofLive before P) where
    abbrev closed : SignedSet
    closed = set_of before xs

    -- what derives in the one pool does in the other
    pub derives_later : (goal : Formula) → Derives L goal closed (proof_at before P) → Derives L goal (set_of now xs) (proof_at now P)
    derives_later goal d =
        subst (λ (Q : Tree Signed). Derives L goal (set_of now xs) Q) (sym (proof_grows before now grown P P_live))
        (subst (λ (X : SignedSet). Derives L goal X (proof_at before P)) (sym (set_grows xs xs_live)) d)

    -- and what is put in the other is put in the one
    pub puts_first : (goal : Formula) (old new : List (Line Signed)) (n : ℕ) → Puts L goal old new (set_of now xs) (proof_at now P) n →
        Puts L goal old new closed (proof_at before P) n
    puts_first goal old new n h =
        subst (λ (Q : Tree Signed). Puts L goal old new closed Q n) (proof_grows before now grown P P_live)
        (subst (λ (X : SignedSet). Puts L goal old new X (proof_at now P) n) (set_grows xs xs_live) h)

    module _ (r : Rule) (x : SignedId) (er : r ≡ rule_of P) (ex : x ≡ principal_of P) (lists : List (List SignedId))
        (left : ArePremises L now r x xs lists) where
      abbrev first : Signed
      first = signed_at before (principal_of P)

      -- the subproofs, also in the second pool, and the sets that they close
      abbrev subs : List (Tree Signed)
      subs = map (proof_at before) (subs_of P)

      abbrev now_subs : List (Tree Signed)
      now_subs = map (proof_at now) (subs_of P)

      abbrev left_sets : List SignedSet
      left_sets = premises trees L (rule_of P) first (parts_of first) closed

      first_live : IsLive before (principal_of P).form
      first_live = each_first (λ (s : SignedId). IsLive before s.form) P P_live

      same_sets : map (set_of now) lists ≡ left_sets
      same_sets =
          left now (Grows-same now)
          ∙ (λ i. premises trees L (er i) (signed_at now (ex i)) (parts_of (signed_at now (ex i))) (set_of now xs))
          ∙ (λ i. premises trees L (rule_of P) (same_first i) (parts_of (same_first i)) (set_grows xs xs_live i))
        where
          same_first : signed_at now (principal_of P) ≡ first
          same_first = signed_grows before now grown (principal_of P) first_live

      opened : (goal : Formula) → Derives L goal closed (proof_at before P) → Derives L goal closed (node (rule_of P) first (forest subs))
      opened goal d = subst (λ (Q : Tree Signed). Derives L goal closed Q) (begun before P) d

      -- the subproofs close the premises
      pub derives_subs : (goal : Formula) → Derives L goal closed (proof_at before P) → DerivesEach L goal now lists P
      derives_subs goal d =
          subst (λ (Xs : List SignedSet). AllZip (Derives L goal) Xs now_subs) (sym same_sets)
          (subst (λ (Ps : List (Tree Signed)). AllZip (Derives L goal) left_sets Ps) (sym (subs_grow P P_live))
          (closed_each L goal left_sets subs (opened goal d).1))

      module _ (old : List (Line SignedId)) (old_live : IsTableLive before old) (ts : List Formula) (mid : List (Line SignedId))
          (cites : List ℕ) (put : PutsSubproofs L now old ts mid lists P cites) where
        -- the numbers of the lines with the premises are numbers of lines
        pub cites_below : (goal : Formula) → Derives L goal closed (proof_at before P) → All (λ c. c < length mid) cites
        cites_below goal d =
            subst (λ n. All (λ c. c < n) cites) (length-map mid (line_at ts))
            (numbered (table_at ts mid) cites (map (set_of now) lists) (put goal (derives_subs goal d)).roots)

        -- the line of the step
        abbrev line : Line SignedId
        line = record { members = xs; rule = r; principal = x; cites = cites }

        module _ (later : Grows before ts) (goal : Formula) (d : Derives L goal closed (proof_at before P)) where
          abbrev Put : List (Line Signed) → Tree Signed → ℕ → Type 0
          Put new Q n = Puts L goal (table_at before old) new closed Q n

          -- what is put of the subproofs, in the first pool
          each : PutsEach L goal (table_at before old) (table_at ts mid) left_sets subs cites
          each =
              subst (λ (Ps : List (Tree Signed)). PutsEach L goal (table_at before old) (table_at ts mid) left_sets Ps cites)
              (subs_grow P P_live)
              (subst (λ (Xs : List SignedSet). PutsEach L goal (table_at before old) (table_at ts mid) Xs now_subs cites) same_sets
              (subst (λ (T : List (Line Signed)). PutsEach L goal T (table_at ts mid) (map (set_of now) lists) now_subs cites)
              (table_grows before now grown old old_live) (put goal (derives_subs goal d))))

          same_set : set_of ts xs ≡ closed
          same_set = ap among (listed_grows before ts later xs xs_live)

          same_principal : signed_at ts x ≡ first
          same_principal = ap (signed_at ts) ex ∙ signed_grows before ts later (principal_of P) first_live

          -- a table that has the step over its subproofs has the proof
          whole : (new : List (Line Signed)) (n : ℕ) → Put new (node (rule_of P) first (forest subs)) n → Put new (proof_at before P) n
          whole new n h = subst (λ (Q : Tree Signed). Put new Q n) (sym (begun before P)) h

          entered : (new : List (Line SignedId)) (n : ℕ) → Enters ts mid line new n → Put (table_at ts new) (proof_at before P) n
          entered new n (known below e) =
              whole (table_at ts mid) n
              (known_put L goal (table_at before old) (table_at ts mid) closed (rule_of P) first subs cites each n
              (line_at ts (line_of mid n), at_number ts mid n below, e ∙ same_set))
          entered new n (behind away) =
              subst (λ (T : List (Line Signed)). Put T (proof_at before P) (length mid)) (sym (map-append (line_at ts) mid (line ∷ [])))
              (subst (λ k. Put (table_at ts mid ++ line_at ts line ∷ []) (proof_at before P) k) (length-map mid (line_at ts))
              (whole (table_at ts mid ++ line_at ts line ∷ []) (length (table_at ts mid))
              (behind_put L goal (table_at before old) (table_at ts mid) closed (rule_of P) first subs cites each (line_at ts line)
              same_set er same_principal refl (opened goal d).0 (absent_set ts mid closed (λ i b e. away i b (e ∙ sym same_set))))))

        -- so the step's set is entered behind those of its subproofs, or stood in the table
        pub step_put : Grows before ts → (new : List (Line SignedId)) (n : ℕ) → Enters ts mid line new n →
            PutsProof L before old ts new xs P n
        step_put later new n e = λ goal d. entered later goal d new n e

        -- and the pool has the ids of its line
        pub step_live : Grows before ts → IsTableLive ts mid → (new : List (Line SignedId)) (n : ℕ) →
            Enters ts mid line new n → IsTableLive ts new
        step_live later live new n (known below e) = live
        step_live later live new n (behind away) =
            let there : IsLive ts (principal_of P).form = IsLive_grows before ts later (principal_of P).form first_live in
            All-push (IsLineLive ts) mid line live
            (AreLive_grows before ts later xs xs_live, subst (λ (y : SignedId). IsLive ts y.form) (sym ex) there)
