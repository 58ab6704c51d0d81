-- The files of a map, looked up and changed as the map is.
use Rattle.std.specs.Prelude.{◌≡◌, ℕ, Bool, true, false, cond, List, [], ◌∷◌, map, Option, Some, option_map, string_bytes, string_cmp, bytes_eq, refl}
use Rattle.std.proofs.Common.{sym, ◌∙◌, ap}
use Rattle.std.specs.declared.alloc.Global.{Global}
use Rattle.std.specs.declared.string.String.{String}
use Rattle.std.specs.declared.vec.Vec.{Vec}
use Rattle.std.specs.Ordering.{nat_cmp, eq_by_cmp}
use Rattle.std.specs.Cmp.{eq_by_cmp_equiv}
use Rattle.std.specs.Cmp.Lexicographic.{slice_cmp}
use Rattle.std.specs.Map.{lookup}
use Rattle.std.specs.BTreeMap.{BTreeMap, UpdatesBy, is_at, get_by_text}
use Rattle.std.specs.FinMap.{find, insert, same_map, get-insert, get-from_entries, slice_cmp-IsAntisymmetric, nat_cmp-IsAntisymmetric}
use Rattle.std.proofs.lemmas.Cmp.{nat_list_cmp_total}
use Rattle.std.proofs.lemmas.Map.Text.{text_cmp, btree_map_updates_text, is_eq-slice_cmp}
use Rattle.lw_io.specs.Files.{bytes_at}
use Rattle.lw_io.specs.Private.MapEntries.{entry_of, files_of}

-- the items of a vector that may be missing
abbrev pub items_of : Option (Vec ℕ Global) → Option (List ℕ)
items_of found = option_map (λ bytes. bytes.items) found

-- an entry that is found by its name has its items
picked : (b : Bool) (v : Vec ℕ Global) (a : Option (List ℕ)) (o : Option (Vec ℕ Global)) → a ≡ items_of o → cond b (Some v.items) a ≡ items_of (cond b (Some v) o)
picked true v a o e = refl
picked false v a o e = e

-- the entries seen as bytes are found as the entries are
find-entries : (q : List ℕ) (es : List (String Global × Vec ℕ Global)) → find (slice_cmp nat_cmp) q (map entry_of es) ≡ items_of (lookup (is_at (text_cmp q)) es)
find-entries q [] = refl
find-entries q (e ∷ es) = picked (is_at (text_cmp q) e.0) e.1 _ _ (find-entries q es)

-- a file is found in the files of a map as in the map
pub bytes_at-files_of : (es : List (String Global × Vec ℕ Global)) (q : List ℕ) → bytes_at (files_of es) q ≡ items_of (lookup (is_at (text_cmp q)) es)
bytes_at-files_of es q = get-from_entries nat_list_cmp_total (map entry_of es) q ∙ find-entries q es

-- the items of a vector that is put in place of another
spread : (b : Bool) (v : Vec ℕ Global) (o : Option (Vec ℕ Global)) → items_of (cond b (Some v) o) ≡ cond b (Some v.items) (items_of o)
spread true v o = refl
spread false v o = refl

-- a key that is inserted into a map is inserted into its files
pub files_of-insert : (m n : BTreeMap (String Global) (Vec ℕ Global)) (key : String Global) (value : Vec ℕ Global) → UpdatesBy string_cmp (λ k. slice_cmp nat_cmp (string_bytes key) (string_bytes k)) m n (Some value) → files_of n.entries ≡ insert (files_of m.entries) (string_bytes key) value.items
files_of-insert m n key value u =
    let k : List ℕ = string_bytes key in
    same_map nat_list_cmp_total (slice_cmp-IsAntisymmetric nat_cmp-IsAntisymmetric) _ _ (λ q.
    bytes_at-files_of n.entries q ∙ ap items_of (btree_map_updates_text k m n (Some value) u q) ∙ spread (bytes_eq k q) value (get_by_text m q)
    ∙ ap (λ b. cond b (Some value.items) (items_of (get_by_text m q))) (sym (is_eq-slice_cmp k q) ∙ (eq_by_cmp_equiv nat_list_cmp_total).symm k q)
    ∙ ap (cond (eq_by_cmp (slice_cmp nat_cmp) q k) (Some value.items)) (sym (bytes_at-files_of m.entries q))
    ∙ sym (get-insert nat_list_cmp_total (files_of m.entries) k value.items q))
