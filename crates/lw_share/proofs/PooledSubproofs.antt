-- The subproofs of a step, whose sets are given by ids of a pool, are put into a table in turn.
use Rattle.std.proofs.Common.{◌≡◌, ℕ, ◌+◌, ◌<◌, ◌≤◌, List, [], ◌∷◌, ◌++◌, length, map, take, get_or, Some, sym, ap, subst, ◌∙◌, arith}
use Rattle.std.specs.List.{slice_get}
use Rattle.std.proofs.lemmas.Option.{slice_get_within, get_or_from_slice_get}
use Rattle.std.proofs.lemmas.List.{take_more, take_all, length-map, length-take-le, map-append, get_or-map}
use Rattle.std.proofs.lemmas.Slice.Zip.{AllZip-long}
use Rattle.lw_formula.specs.declared.logic.Logic.{Logic}
use Rattle.lw_formula.specs.Formula.{Formula}
use Rattle.lw_formula.specs.Signed.{Signed, SignedSet}
use Rattle.lw_pool.specs.declared.id.SignedId.{SignedId}
use Rattle.lw_pool.specs.Region.{Grows}
use Rattle.lw_proof.specs.Tree.{Tree, subs_of}
use Rattle.lw_proof.specs.Derivation.{Derives}
use Rattle.lw_proof.specs.Pooled.{proof_at, IsProofLive}
use Rattle.lw_sets.specs.IdSets.{set_of, AreLive}
use Rattle.lw_share.specs.Lines.{Line}
use Rattle.lw_share.specs.Pooled.{table_at}
use Rattle.lw_share.specs.Private.SharedSteps.{Puts, PutsProof}
use Rattle.lw_share.specs.Private.SharedSubproofs.{DerivesEach, PutsEach}
use Rattle.lw_share.proofs.CitedLines.{zip_at}
use Rattle.lw_share.proofs.PutSteps.{more_put}
use Rattle.lw_share.proofs.PooledSteps.{derives_later, puts_first}

module _ (L : Logic) (before : List Formula) (lists : List (List SignedId)) (P : Tree SignedId) where
  abbrev sets : List (List SignedId) → List SignedSet
  sets ys = map (set_of before) ys

  abbrev proofs : List (Tree SignedId) → List (Tree Signed)
  proofs us = map (proof_at before) us

  -- there are as many subproofs as premises
  as_many : (goal : Formula) → DerivesEach L goal before lists P → length (subs_of P) ≡ length lists
  as_many goal d =
      sym (length-map (subs_of P) (proof_at before))
      ∙ AllZip-long (Derives L goal) (sets lists) (proofs (subs_of P)) d
      ∙ length-map lists (set_of before)

  pub sub_below : (goal : Formula) → DerivesEach L goal before lists P → (i : ℕ) → i < length lists → i < length (subs_of P)
  sub_below goal d i below = omega (arith, below, as_many goal d)

  -- all subproofs are put
  pub all_put : (goal : Formula) → DerivesEach L goal before lists P → (old new : List (Line Signed)) (cites : List ℕ) (i : ℕ) →
      length lists ≤ i → PutsEach L goal old new (sets (take i lists)) (proofs (take i (subs_of P))) cites →
      PutsEach L goal old new (sets lists) (proofs (subs_of P)) cites
  all_put goal d old new cites i past h =
      subst (λ (us : List (Tree SignedId)). PutsEach L goal old new (sets lists) (proofs us) cites)
      (take_all i (subs_of P) (omega (arith, past, as_many goal d)))
      (subst (λ (ys : List (List SignedId)). PutsEach L goal old new (sets ys) (proofs (take i (subs_of P))) cites)
      (take_all i lists past) h)

  module _ (i : ℕ) (xs : List SignedId) (Q : Tree SignedId) (below : i < length lists) (is : xs ≡ get_or lists i xs)
      (at : slice_get (subs_of P) i ≡ Some Q) where
    -- the subproof with a number closes the premise with it
    pub derives_at : (goal : Formula) → DerivesEach L goal before lists P → Derives L goal (set_of before xs) (proof_at before Q)
    derives_at goal d =
        subst (λ (R : Tree Signed). Derives L goal (set_of before xs) R)
        (get_or-map (proof_at before) (subs_of P) i Q (proof_at before Q) (slice_get_within (subs_of P) i Q at)
        ∙ ap (proof_at before) (get_or_from_slice_get (subs_of P) i Q Q at))
        (subst (λ (X : SignedSet). Derives L goal X (get_or (proofs (subs_of P)) i (proof_at before Q)))
        (get_or-map (set_of before) lists i xs (set_of before xs) below ∙ ap (set_of before) (sym is))
        (zip_at (Derives L goal) (sets lists) (proofs (subs_of P)) i (set_of before xs) (proof_at before Q) d
        (omega (arith, below, length-map lists (set_of before)))))

    more_proofs : proofs (take (i + 1) (subs_of P)) ≡ proofs (take i (subs_of P)) ++ proof_at before Q ∷ []
    more_proofs =
        ap proofs (take_more (subs_of P) i Q (slice_get_within (subs_of P) i Q at))
        ∙ map-append (proof_at before) (take i (subs_of P)) (get_or (subs_of P) i Q ∷ [])
        ∙ ap (λ (R : Tree SignedId). proofs (take i (subs_of P)) ++ proof_at before R ∷ []) (get_or_from_slice_get (subs_of P) i Q Q at)

    more_sets : sets (take (i + 1) lists) ≡ sets (take i lists) ++ set_of before xs ∷ []
    more_sets =
        ap sets (take_more lists i xs below)
        ∙ map-append (set_of before) (take i lists) (get_or lists i xs ∷ [])
        ∙ ap (λ (ys : List SignedId). sets (take i lists) ++ set_of before ys ∷ []) (sym is)

    so_long : length (sets (take i lists)) ≡ length (proofs (take i (subs_of P)))
    so_long =
        omega (
          arith,
          length-map (take i lists) (set_of before),
          length-map (take i (subs_of P)) (proof_at before),
          length-take-le i lists (omega (arith, below)),
          length-take-le i (subs_of P) (omega (arith, slice_get_within (subs_of P) i Q at)),
        )

    module _ (xs_live : AreLive before xs) (Q_live : IsProofLive before Q) (now later : List Formula) (grown : Grows before now)
        (old mid new : List (Line SignedId)) (goal : Formula) (d : DerivesEach L goal before lists P) where
      abbrev Put : List SignedSet → List (Tree Signed) → List ℕ → Type 0
      Put Xs Ps cites = PutsEach L goal (table_at before old) (table_at later new) Xs Ps cites

      -- one more subproof is put
      pub sub_put : (cites more : List ℕ) (n : ℕ) → more ≡ cites ++ n ∷ [] →
          PutsEach L goal (table_at before old) (table_at now mid) (sets (take i lists)) (proofs (take i (subs_of P))) cites →
          PutsProof L now mid later new xs Q n → Put (sets (take (i + 1) lists)) (proofs (take (i + 1) (subs_of P))) more
      sub_put cites more n e done put =
          subst (λ (is : List ℕ). Put (sets (take (i + 1) lists)) (proofs (take (i + 1) (subs_of P))) is) (sym e)
          (subst (λ (Ps : List (Tree Signed)). Put (sets (take (i + 1) lists)) Ps (cites ++ n ∷ [])) (sym more_proofs)
          (subst (λ (Xs : List SignedSet). Put Xs (proofs (take i (subs_of P)) ++ proof_at before Q ∷ []) (cites ++ n ∷ [])) (sym more_sets)
          (more_put L goal (table_at before old) (table_at now mid) (table_at later new) (sets (take i lists)) (set_of before xs)
          (proofs (take i (subs_of P))) (proof_at before Q) cites n so_long done last)))
        where
          last : Puts L goal (table_at now mid) (table_at later new) (set_of before xs) (proof_at before Q) n
          last =
              puts_first before now grown L xs xs_live Q Q_live goal (table_at now mid) (table_at later new) n
              (put goal (derives_later before now grown L xs xs_live Q Q_live goal (derives_at goal d)))
