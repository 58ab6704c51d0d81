-- The bytes of lines, one behind the other.
use Rattle.std.proofs.Common.{◌≡◌, ℕ, ◌+◌, ◌<◌, List, [], ◌∷◌, ◌++◌, length, get_or, take, codes, refl, sym, ◌∙◌, ap}
use Rattle.std.proofs.lemmas.List.{append_assoc, append-nil, take_more}
use Rattle.std.specs.Fmt.{decimal}
use Rattle.lw_cert.specs.Lines.{Line, Whole, Row, model_follows, worlds_are, refuted_is, world_is, ending, say, numbers, words, world_text}
use Rattle.lw_cert.specs.Written.{piece_text, text_of_lines}
use Rattle.lw_cert.specs.Private.LineWriting.{Writes}
use Rattle.lw_cert.proofs.RowReading.{numbers-push, words-push}

-- lines behind lines
pub writes-then : (a b c : List ℕ) (f g : List Line → List Line) → Writes a b f → Writes b c g → Writes a c (λ rest. f (g rest))
writes-then a b c f g first second = λ rest. second rest ∙ first (g rest)

-- a line by its bytes and its line feed
pub writes-line : (old new bytes : List ℕ) (l : Line) → say l ≡ Whole bytes → new ≡ old ++ (bytes ++ 10 ∷ []) → Writes old new (λ rest. l ∷ rest)
writes-line old new bytes l said more = λ rest.
    ap (λ xs. xs ++ text_of_lines rest) more ∙ append_assoc old (bytes ++ 10 ∷ []) (text_of_lines rest) ∙ ap (λ p. old ++ (piece_text p ++ text_of_lines rest)) (sym said)

numbers-append : (vs xs ys : List ℕ) → numbers vs xs ++ ys ≡ numbers vs (xs ++ ys)
numbers-append [] xs ys = refl
numbers-append (v ∷ vs) xs ys = ap (λ zs. 32 ∷ zs) (append_assoc (decimal v) (numbers vs xs) ys ∙ ap (λ zs. decimal v ++ zs) (numbers-append vs xs ys))

-- one more number was written
pub numbers-more : (vs : List ℕ) (i : ℕ) (old a b c : List ℕ) → i < length vs → ((after : List ℕ) → a ++ after ≡ old ++ numbers (take i vs) after)
    → b ≡ a ++ 32 ∷ [] → c ≡ b ++ decimal (get_or vs i 0) → (after : List ℕ) → c ++ after ≡ old ++ numbers (take (i + 1) vs) after
numbers-more vs i old a b c within so space number after =
    let v : ℕ = get_or vs i 0 in
    let written : c ++ after ≡ a ++ (32 ∷ (decimal v ++ after)) = ap (λ xs. xs ++ after) (number ∙ ap (λ xs. xs ++ decimal v) space) ∙ simp append_assoc in
    written ∙ so (32 ∷ (decimal v ++ after)) ∙ ap (λ xs. old ++ xs) (sym (numbers-push (take i vs) after v)) ∙ ap (λ ws. old ++ numbers ws after) (sym (take_more vs i 0 within))

-- one more name was written
pub words-more : (ps : List (List ℕ)) (i : ℕ) (p old a b c : List ℕ) → i < length ps → p ≡ get_or ps i [] → a ≡ old ++ words (take i ps)
    → b ≡ a ++ 32 ∷ [] → c ≡ b ++ p → c ≡ old ++ words (take (i + 1) ps)
words-more ps i p old a b c within is so space name =
    let written : c ≡ old ++ (words (take i ps) ++ (32 ∷ (p ++ []))) =
    name ∙ ap (λ xs. xs ++ p) (space ∙ ap (λ xs. xs ++ 32 ∷ []) so) ∙ ap (λ xs. ((old ++ words (take i ps)) ++ 32 ∷ []) ++ xs) (sym (append-nil p)) ∙ simp append_assoc
    in
    written ∙ ap (λ xs. old ++ xs) (sym (words-push (take i ps) [] p) ∙ append-nil (words (take i ps ++ p ∷ [])))
    ∙ ap (λ q. old ++ words (take i ps ++ q ∷ [])) is ∙ ap (λ qs. old ++ words qs) (sym (take_more ps i [] within))

-- the line of a world by its parts
pub writes-row : (n w : ℕ) (vs : List ℕ) (ps : List (List ℕ)) (a b c d e f g h : List ℕ) → b ≡ a ++ codes "world " → c ≡ b ++ decimal w → d ≡ c ++ codes " sees"
    → ((after : List ℕ) → e ++ after ≡ d ++ numbers vs after) → f ≡ e ++ codes " true" → g ≡ f ++ words ps → h ≡ g ++ 10 ∷ []
    → Writes a h (λ rest. world_is n w (record { sees = vs; names = ps }) ∷ rest)
writes-row n w vs ps a b c d e f g h word number sees seen true' named feed = λ rest.
    let T : List ℕ = text_of_lines rest in
    let tail : List ℕ = codes " true" ++ (words ps ++ (10 ∷ T)) in
    let row : Row = record { sees = vs; names = ps } in
    let ends : h ++ T ≡ e ++ tail = ap (λ xs. xs ++ T) (feed ∙ ap (λ xs. xs ++ 10 ∷ []) (named ∙ ap (λ xs. xs ++ words ps) true')) ∙ simp append_assoc in
    let begins : d ≡ a ++ (codes "world " ++ (decimal w ++ codes " sees")) = sees ∙ ap (λ xs. xs ++ codes " sees") (number ∙ ap (λ xs. xs ++ decimal w) word) ∙ simp append_assoc in
    let whole : a ++ ((world_text w row ++ 10 ∷ []) ++ T) ≡ (a ++ (codes "world " ++ (decimal w ++ codes " sees"))) ++ numbers vs tail = simp (append_assoc, numbers-append) in
    ends ∙ seen tail ∙ ap (λ xs. xs ++ numbers vs tail) begins ∙ sym whole

-- the lines of a model before those of its worlds
pub writes-counts : (n w : ℕ) (a b c d : List ℕ) → b ≡ a ++ (codes "model" ++ 10 ∷ []) → c ≡ b ++ (codes "worlds " ++ decimal n ++ 10 ∷ []) → d ≡ c ++ (codes "refuted " ++ decimal w ++ 10 ∷ [])
    → Writes a d (λ rest. model_follows ∷ worlds_are n ∷ refuted_is n w ∷ rest)
writes-counts n w a b c d model worlds refuted =
    writes-then a c d (λ rest. model_follows ∷ worlds_are n ∷ rest) (λ rest. refuted_is n w ∷ rest)
    (writes-then a b c (λ rest. model_follows ∷ rest) (λ rest. worlds_are n ∷ rest)
    (writes-line a b (codes "model") model_follows refl model)
    (writes-line b c (codes "worlds " ++ decimal n) (worlds_are n) refl worlds))
    (writes-line c d (codes "refuted " ++ decimal w) (refuted_is n w) refl refuted)

pub writes-ending : (a b : List ℕ) → b ≡ a ++ (codes "end" ++ 10 ∷ []) → Writes a b (λ rest. ending ∷ rest)
writes-ending a b more = writes-line a b (codes "end") ending refl more
