-- Open fragments: what a search that found no proof leaves behind (model graphs; Goré, Tableau methods for modal and temporal logics).
use Rattle.std.specs.Prelude.{◌≡◌, ◌≢◌, ℕ, ◌<◌, ◌≤◌, ◌⊎◌, IsTrue, Some, length}
use Rattle.lw_formula.specs.declared.logic.Logic.{Logic}
use Rattle.lw_formula.specs.declared.parts.Parts.TheVariants.{Pi}
use Rattle.lw_proof.specs.System.{Set, System}
use Rattle.lw_proof.specs.Derivation.{has_refl, has_cut, has_serial, is_nu, is_modal_part, kept}
use Rattle.lw_closure.specs.Unclosed.{IsUnclosed}
use Rattle.lw_counter.specs.Fragment.{Fragment, IsFormed, world_at}
use Rattle.lw_counter.specs.FragmentPaths.{IsEdge}

-- world v is one that w surely sees: an edge leads there, or all worlds see all, in the logic with cuts
abbrev pub IsOffered : Logic → Fragment → ℕ → ℕ → Type 0
IsOffered L f w v = IsEdge L f w v ⊎ (IsTrue (has_cut L) × (v < length f.worlds))

-- the component c of a π of world w is in the world's own label, where worlds see themselves, or in that of a world that it surely sees
abbrev pub HasWitness : {I : Type 0} → Logic → Fragment → (ℕ → Set I) → ℕ → I → Type 0
HasWitness L f label w c = (IsTrue (has_refl L) × IsTrue (label w c)) ⊎ ((v : ℕ) × IsOffered L f w v × IsTrue (label v c))

-- each world is the root, which is world 0, or its child, and each modal formula of a label stands in the root's under one of the signs
pub record IsRound {I : Type 0} (S : System I) (f : Fragment) (label : ℕ → Set I) : Type 0 where
  pub near : (w : ℕ) → w < length f.worlds → w ≢ 0 → (world_at f w).parent ≡ Some 0
  pub decided : (w : ℕ) → w < length f.worlds → (s : I) → IsTrue (is_modal_part (S.parts s)) → IsTrue (label w s) → IsTrue (label 0 s) ⊎ IsTrue (label 0 (S.flip s))

-- the fragment with these labels is open: there is a world, every label is unclosed, an edge carries all that a step keeps, each π has a
-- witness, in the logic with cuts all worlds stand round the root, and in the serial logic an edge leads on from each world with a ν
pub record IsOpen {I : Type 0} (S : System I) (L : Logic) (f : Fragment) (label : ℕ → Set I) : Type 0 where
  pub some : 1 ≤ length f.worlds
  pub formed : IsFormed f
  pub unclosed : (w : ℕ) → w < length f.worlds → IsUnclosed S L (label w)
  pub flows : (w v : ℕ) → IsEdge L f w v → (s : I) → IsTrue (kept S L (label w) s) → IsTrue (label v s)
  pub served : (w : ℕ) → w < length f.worlds → (s c : I) → IsTrue (label w s) → S.parts s ≡ Pi c → HasWitness L f label w c
  pub round : IsTrue (has_cut L) → IsRound S f label
  pub serial : IsTrue (has_serial L) → (w : ℕ) → w < length f.worlds → (s : I) → IsTrue (is_nu (S.parts s)) → IsTrue (label w s) → (v : ℕ) × IsEdge L f w v
