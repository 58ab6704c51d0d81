-- Reading the worlds that a world sees, and the variables that are true there.
use Rattle.std.proofs.Common.{◌≡◌, ◌≢◌, ℕ, suc, ◌+◌, ◌<◌, ◌≤◌, ◌^◌, ◌%◌, not, nat_eq, MatchBool, Bool, true, false, IsTrue, List, [], ◌∷◌, ◌++◌, inl, inr, ⊎_elim, ◌⊎◌, ◌↔◌, length, codes, Contains, refl, sym, ◌∙◌, ap, subst, arith}
use Rattle.std.proofs.lemmas.Bool.{false≢true}
use Rattle.std.proofs.lemmas.Bool.Decides.{nat_tests}
use Rattle.std.proofs.lemmas.List.{append_assoc, append-nil, append_cancel_left}
use Rattle.std.proofs.lemmas.List.Elements.{Contains-append_left, Contains-push, Contains-push_cases}
use Rattle.std.proofs.lemmas.Fmt.{decimal_injective, decimal_by_steps}
use Rattle.std.specs.Fmt.{decimal}
use Rattle.std.specs.Ordering.{nat_cmp}
use Rattle.std.specs.Cmp.Lexicographic.{slice_cmp}
use Rattle.std.specs.declared.cmp.Ordering.TheVariants.{Less}
use Rattle.lw_formula.specs.FiniteModel.{FiniteModel, Sees, HasFact}
use Rattle.lw_formula.specs.Name.{is_name}
use Rattle.lw_formula.proofs.ListMembers.{Contains-nil}
use Rattle.lw_model.specs.Edits.{AddsPair, AddsFact}
use Rattle.lw_cert.specs.Lines.{Row, Climb, Rise, numbers, words, world_text}
use Rattle.lw_cert.specs.Private.RowReading.{IsSpaceless, Ends, IsWord, AddsPairs, AddsFacts, IsSeen, IsNamed, ReadsSeen, ReadsNames, ReadsRow, IsNoRow, HasPassed, HasNamed}
use Rattle.lw_cert.proofs.LinesAndWords.{cut-same}
use Rattle.lw_cert.proofs.MarkFreeBytes.{lacks, lacks-decimal, lacks-name, and-first, and-second}

spaceless : (bytes : List ℕ) → lacks 32 bytes ≡ true → IsSpaceless bytes
spaceless [] h = tt
spaceless (b ∷ bytes) h =
    ((λ e. false≢true (sym (ap (λ k. not (nat_eq k 32)) e) ∙ and-first (not (nat_eq b 32)) (lacks 32 bytes) h)), spaceless bytes (and-second (not (nat_eq b 32)) (lacks 32 bytes) h))

-- a number's digits are no spaces
pub spaceless-decimal : (n : ℕ) → IsSpaceless (decimal n)
spaceless-decimal n = spaceless (decimal n) (lacks-decimal 32 n (omega arith))

-- nor are a name's bytes
pub spaceless-name : (p : List ℕ) → is_name p ≡ true → IsSpaceless p
spaceless-name p is = spaceless p (lacks-name 32 p (omega arith) is)

pub ends-numbers : (vs after : List ℕ) → Ends (numbers vs (codes " true" ++ after))
ends-numbers [] after = refl
ends-numbers (v ∷ vs) after = refl

pub ends-words : (ps : List (List ℕ)) → Ends (words ps)
ends-words [] = tt
ends-words (p ∷ ps) = refl

pub tail-same : (a b : ℕ) (xs ys : List ℕ) → a ∷ xs ≡ b ∷ ys → xs ≡ ys
tail-same a b xs ys e = cc

-- the word `true` has no space
pub true-spaceless : IsSpaceless (codes "true")
true-spaceless = spaceless (codes "true") refl

-- a line's numbers begin with the word that was read, or are over
one-seen : (n least : ℕ) (rest word next vs other : List ℕ) (v : ℕ) → n < 2 ^ 64 → v < 2 ^ 64 → IsWord rest word next → word ≡ decimal v → word ≢ codes "true" → IsSeen n least rest vs other
    → (us : List ℕ) × (least ≤ v) × (v < n) × IsSeen n (v + 1) next us other
one-seen n least rest word next [] other v small low is digits differs seen =
    let same = tail-same 32 32 (word ++ next) (codes "true" ++ other) (sym is.said ∙ seen.said) in
    absurd (differs (cut-same word (codes "true") next other is.spaceless true-spaceless is.ends seen.ends same).0)
one-seen n least rest word next (u ∷ us) other v small low is digits differs seen =
    let within : u < 2 ^ 64 = let below = seen.climbs.1 in omega (arith, below, small) in
    let same = tail-same 32 32 (word ++ next) (decimal u ++ numbers us (codes " true" ++ other)) (sym is.said ∙ seen.said) in
    let cut = cut-same word (decimal u) next (numbers us (codes " true" ++ other)) is.spaceless (spaceless-decimal u) is.ends (ends-numbers us other) same in
    let number : v ≡ u = decimal_injective v u low within (sym digits ∙ cut.0) in (
      us,
      subst (λ k. least ≤ k) (sym number) seen.climbs.0,
      subst (λ k. k < n) (sym number) seen.climbs.1,
      record { climbs = subst (λ k. Climb n (k + 1) us) (sym number) seen.climbs.2; ends = seen.ends; said = cut.1 },
    )

-- each byte is below 58, as digits are
abbrev AreLow : List ℕ → Type 0
AreLow [] = Unit {0}
AreLow (b ∷ bytes) = (b < 58) × AreLow bytes

low-append : (v w : List ℕ) → AreLow v → AreLow w → AreLow (v ++ w)
low-append [] w lv lw = lw
low-append (a ∷ v) w lv lw = (lv.0, low-append v w lv.1 lw)

low-decimal : (n : ℕ) → n < 2 ^ 64 → AreLow (decimal n)
low-decimal n low = decimal_by_steps (λ k ds. AreLow ds)
    (λ k h. ((omega arith), tt))
    (λ k ds h is. low-append ds ((48 + k % 10) ∷ []) is ((omega arith), tt))
    n low

-- a number isn't the word `true`
pub number-no-true : (n : ℕ) → n < 2 ^ 64 → decimal n ≡ codes "true" → ⊥
number-no-true n low e = let first = (subst AreLow e (low-decimal n low)).0 in omega (arith, first)

-- after the word `true` stands what a line has there
after-true : (n least : ℕ) (rest word next vs other : List ℕ) → n < 2 ^ 64 → IsWord rest word next → word ≡ codes "true" → IsSeen n least rest vs other → other ≡ next
after-true n least rest word next [] other small is told seen =
    append_cancel_left (codes " true") other next (sym seen.said ∙ is.said ∙ ap (λ w. 32 ∷ (w ++ next)) told)
after-true n least rest word next (u ∷ us) other small is told seen =
    let within : u < 2 ^ 64 = let below = seen.climbs.1 in omega (arith, below, small) in
    let same = tail-same 32 32 (word ++ next) (decimal u ++ numbers us (codes " true" ++ other)) (sym is.said ∙ seen.said) in
    let cut = cut-same word (decimal u) next (numbers us (codes " true" ++ other)) is.spaceless (spaceless-decimal u) is.ends (ends-numbers us other) same in
    absurd (number-no-true u within (sym cut.0 ∙ told))

seen-begins : (n least : ℕ) (rest vs other : List ℕ) → IsSeen n least rest vs other → (tail : List ℕ) × (rest ≡ 32 ∷ tail)
seen-begins n least rest [] other seen = (codes "true" ++ other, seen.said)
seen-begins n least rest (v ∷ vs) other seen = (decimal v ++ numbers vs (codes " true" ++ other), seen.said)

-- the word is that of a number
number-word : (n least : ℕ) (rest word next vs other : List ℕ) → n < 2 ^ 64 → IsWord rest word next → word ≢ codes "true" → IsSeen n least rest vs other → (v : ℕ) × (v < 2 ^ 64) × (word ≡ decimal v)
number-word n least rest word next [] other small is differs seen =
    let same = tail-same 32 32 (word ++ next) (codes "true" ++ other) (sym is.said ∙ seen.said) in
    absurd (differs (cut-same word (codes "true") next other is.spaceless true-spaceless is.ends seen.ends same).0)
number-word n least rest word next (u ∷ us) other small is differs seen =
    let within : u < 2 ^ 64 = let below = seen.climbs.1 in omega (arith, below, small) in
    let same = tail-same 32 32 (word ++ next) (decimal u ++ numbers us (codes " true" ++ other)) (sym is.said ∙ seen.said) in
    (u, within, (cut-same word (decimal u) next (numbers us (codes " true" ++ other)) is.spaceless (spaceless-decimal u) is.ends (ends-numbers us other) same).0)

pub numbers-push : (vs rest : List ℕ) (v : ℕ) → numbers (vs ++ v ∷ []) rest ≡ numbers vs (32 ∷ (decimal v ++ rest))
numbers-push [] rest v = refl
numbers-push (u ∷ us) rest v = ap (λ bytes. 32 ∷ (decimal u ++ bytes)) (numbers-push us rest v)

pub words-push : (ps : List (List ℕ)) (rest p : List ℕ) → words (ps ++ p ∷ []) ++ rest ≡ words ps ++ (32 ∷ (p ++ rest))
words-push [] rest p = ap (λ bytes. 32 ∷ (bytes ++ rest)) (append-nil p)
words-push (q ∷ qs) rest p =
    ap (λ bytes. 32 ∷ bytes) (append_assoc q (words (qs ++ p ∷ [])) rest ∙ ap (λ bytes. q ++ bytes) (words-push qs rest p) ∙ sym (append_assoc q (words qs) (32 ∷ (p ++ rest))))

-- one element more at w
one-more : {X : Type 0} (w : ℕ) (v : X) (seen : List X) (Old Now New : ℕ → X → Type 0) → ((u : ℕ) (x : X) → Now u x ↔ (Old u x ⊎ ((w ≡ u) × Contains seen x))) → ((u : ℕ) (x : X) → New u x ↔ (Now u x ⊎ ((w ≡ u) × (v ≡ x))))
    → (u : ℕ) (x : X) → New u x ↔ (Old u x ⊎ ((w ≡ u) × Contains (seen ++ v ∷ []) x))
one-more w v seen Old Now New now new u x = (
  λ h. ⊎_elim
      (λ there. ⊎_elim (λ old. inl old) (λ e. inr (e.0, Contains-append_left seen (v ∷ []) x e.1)) ((now u x).0 there))
      (λ e. inr (e.0, subst (Contains (seen ++ v ∷ [])) e.1 (Contains-push seen v)))
      ((new u x).0 h),
  λ h. (new u x).1 (⊎_elim
      (λ there. inl ((now u x).1 (inl there)))
      (λ e. ⊎_elim (λ k. inl ((now u x).1 (inr (e.0, k)))) (λ k. inr (e.0, k)) (Contains-push_cases seen v x e.1))
      h),
)

none-more : {X Old : Type 0} (w u : ℕ) (x : X) → Old ↔ (Old ⊎ ((w ≡ u) × Contains [] x))
none-more w u x = (λ h. inl h, λ h. ⊎_elim (λ there. there) (λ e. absurd (Contains-nil x e.1)) h)

adds-pair : (w v : ℕ) (seen : List ℕ) (old now new : FiniteModel) → AddsPairs w seen old now → AddsPair now w v new → AddsPairs w (seen ++ v ∷ []) old new
adds-pair w v seen old now new adds more = record {
  worlds = more.worlds ∙ adds.worlds;
  relation = one-more w v seen (Sees old) (Sees now) (Sees new) adds.relation more.relation;
  facts = more.facts ∙ adds.facts;
}

adds-fact : (w : ℕ) (p : List ℕ) (names : List (List ℕ)) (old now new : FiniteModel) → AddsFacts w names old now → AddsFact now w p new → AddsFacts w (names ++ p ∷ []) old new
adds-fact w p names old now new adds more = record {
  worlds = more.worlds ∙ adds.worlds;
  pairs = more.pairs ∙ adds.pairs;
  facts = one-more w p names (HasFact old) (HasFact now) (HasFact new) adds.facts more.relation;
}

pub passed-none : (w : ℕ) (bytes : List ℕ) (old : FiniteModel) → HasPassed w bytes bytes 0 old old
passed-none w bytes old = record {
  seen = [];
  said = refl;
  climbs = λ vs h. h;
  adds = record { worlds = refl; relation = λ u v. none-more w u v; facts = refl };
  on = λ vs other h. (vs, h);
}

pub passed-more : (w v least : ℕ) (bytes rest word next : List ℕ) (old now new : FiniteModel) → old.worlds < 2 ^ 64 → HasPassed w bytes rest least old now → IsWord rest word next → word ≡ decimal v → word ≢ codes "true" → least ≤ v → v < old.worlds → AddsPair now w v new
    → HasPassed w bytes next (v + 1) old new
passed-more w v least bytes rest word next old now new small passed is digits differs high low added = record {
  seen = passed.seen ++ v ∷ [];
  said = passed.said ∙ ap (numbers passed.seen) (is.said ∙ ap (λ ds. 32 ∷ (ds ++ next)) digits) ∙ sym (numbers-push passed.seen next v);
  climbs = λ vs h. subst (Climb old.worlds 0) (sym (append_assoc passed.seen (v ∷ []) vs)) (passed.climbs (v ∷ vs) (high, low, h));
  adds = adds-pair w v passed.seen old now new passed.adds added;
  on = λ vs other h.
      let before = passed.on vs other h in
      let one = one-seen old.worlds least rest word next before.0 other v small (omega (arith, low, small)) is digits differs before.1 in
      (one.0, one.3);
}

-- the ways in which the bytes can be no numbers
pub seen-over : (w least : ℕ) (bytes rest : List ℕ) (old now : FiniteModel) → HasPassed w bytes rest least old now → ((tail : List ℕ) → rest ≢ 32 ∷ tail) → (vs other : List ℕ) → IsSeen old.worlds 0 bytes vs other → ⊥
seen-over w least bytes rest old now passed over vs other h =
    let before = passed.on vs other h in
    let begins = seen-begins old.worlds least rest before.0 other before.1 in
    over begins.0 begins.1

pub seen-no-number : (w least : ℕ) (bytes rest word next : List ℕ) (old now : FiniteModel) → old.worlds < 2 ^ 64 → HasPassed w bytes rest least old now → IsWord rest word next → word ≢ codes "true" → ((n : ℕ) → n < 2 ^ 64 → word ≢ decimal n) → (vs other : List ℕ) → IsSeen old.worlds 0 bytes vs other → ⊥
seen-no-number w least bytes rest word next old now small passed is differs none vs other h =
    let before = passed.on vs other h in
    let number = number-word old.worlds least rest word next before.0 other small is differs before.1 in
    none number.0 number.1 number.2

pub seen-out : (w v least : ℕ) (bytes rest word next : List ℕ) (old now : FiniteModel) → old.worlds < 2 ^ 64 → v < 2 ^ 64 → HasPassed w bytes rest least old now → IsWord rest word next → word ≢ codes "true" → word ≡ decimal v → (least ≤ v → v < old.worlds → ⊥) → (vs other : List ℕ) → IsSeen old.worlds 0 bytes vs other → ⊥
seen-out w v least bytes rest word next old now small low passed is differs digits out vs other h =
    let before = passed.on vs other h in
    let one = one-seen old.worlds least rest word next before.0 other v small low is digits differs before.1 in
    out one.1 one.2

pub seen-true : (w least : ℕ) (bytes rest word next : List ℕ) (old now : FiniteModel) → old.worlds < 2 ^ 64 → HasPassed w bytes rest least old now → IsWord rest word next → word ≡ codes "true" → ReadsSeen w bytes next old now
seen-true w least bytes rest word next old now small passed is told = record {
  seen = passed.seen;
  is = record {
    climbs = subst (Climb old.worlds 0) (append-nil passed.seen) (passed.climbs [] tt);
    ends = is.ends;
    said = passed.said ∙ ap (numbers passed.seen) (is.said ∙ ap (λ ds. 32 ∷ (ds ++ next)) told);
  };
  adds = passed.adds;
  one = λ vs other h. let before = passed.on vs other h in after-true old.worlds least rest word next before.0 other small is told before.1;
}

-- names
one-name : (last rest word next : List ℕ) (ps : List (List ℕ)) → IsWord rest word next → IsNamed last rest ps → (qs : List (List ℕ)) × IsTrue (is_name word) × (slice_cmp nat_cmp last word ≡ Less) × IsNamed word next qs
one-name last rest word next [] is named = let apart : 32 ∷ (word ++ next) ≡ [] = sym is.said ∙ named.said in absurd (cc)
one-name last rest word next (p ∷ ps) is named =
    let same = tail-same 32 32 (word ++ next) (p ++ words ps) (sym is.said ∙ named.said) in
    let cut = cut-same word p next (words ps) is.spaceless (spaceless-name p named.rises.0) is.ends (ends-words ps) same in (
      ps,
      subst (λ q. IsTrue (is_name q)) (sym cut.0) named.rises.0,
      subst (λ q. slice_cmp nat_cmp last q ≡ Less) (sym cut.0) named.rises.1,
      record { rises = subst (λ q. Rise q ps) (sym cut.0) named.rises.2; said = cut.1 },
    )

pub named-none : (w : ℕ) (bytes : List ℕ) (old : FiniteModel) → HasNamed w bytes bytes [] old old
named-none w bytes old = record {
  names = [];
  said = refl;
  rises = λ ps h. h;
  adds = record { worlds = refl; pairs = refl; facts = λ u p. none-more w u p };
  on = λ ps h. (ps, h);
}

pub named-more : (w : ℕ) (bytes rest last word next : List ℕ) (old now new : FiniteModel) → HasNamed w bytes rest last old now → IsWord rest word next → IsTrue (is_name word) → slice_cmp nat_cmp last word ≡ Less → AddsFact now w word new → HasNamed w bytes next word old new
named-more w bytes rest last word next old now new named is name less added = record {
  names = named.names ++ word ∷ [];
  said = named.said ∙ ap (λ xs. words named.names ++ xs) is.said ∙ sym (words-push named.names next word);
  rises = λ ps h. subst (Rise []) (sym (append_assoc named.names (word ∷ []) ps)) (named.rises (word ∷ ps) (name, less, h));
  adds = adds-fact w word named.names old now new named.adds added;
  on = λ ps h. let before = named.on ps h in let one = one-name last rest word next before.0 is before.1 in (one.0, one.3);
}

pub names-refused : (w : ℕ) (bytes rest last word next : List ℕ) (old now : FiniteModel) → HasNamed w bytes rest last old now → IsWord rest word next → (IsTrue (is_name word) → slice_cmp nat_cmp last word ≡ Less → ⊥) → (ps : List (List ℕ)) → IsNamed [] bytes ps → ⊥
names-refused w bytes rest last word next old now named is refused ps h =
    let before = named.on ps h in
    let one = one-name last rest word next before.0 is before.1 in
    refused one.1 one.2

-- the bytes are over, or no name follows
pub names-over : (w : ℕ) (bytes rest last : List ℕ) (old now : FiniteModel) → HasNamed w bytes rest last old now → rest ≡ [] → ReadsNames w bytes old now
names-over w bytes rest last old now named over = record {
  names = named.names;
  is = record {
    rises = subst (Rise []) (append-nil named.names) (named.rises [] tt);
    said = named.said ∙ ap (λ xs. words named.names ++ xs) over ∙ append-nil (words named.names);
  };
  adds = named.adds;
}

pub names-left : (w : ℕ) (bytes rest last : List ℕ) (old now : FiniteModel) → HasNamed w bytes rest last old now → rest ≢ [] → ((tail : List ℕ) → rest ≢ 32 ∷ tail) → (ps : List (List ℕ)) → IsNamed [] bytes ps → ⊥
names-left w bytes rest last old now named full none ps h = of (named.on ps h).0 (named.on ps h).1
  where
    of : (qs : List (List ℕ)) → IsNamed last rest qs → ⊥
    of [] is = full is.said
    of (q ∷ qs) is = none (q ++ words qs) is.said

-- the row of both
pub row-read : (w : ℕ) (bytes rest names : List ℕ) (old mid new : FiniteModel) → bytes ≡ codes "world " ++ (decimal w ++ (codes " sees" ++ rest)) → ReadsSeen w rest names old mid → ReadsNames w names mid new → ReadsRow w bytes old new
row-read w bytes rest names old mid new begins seen named = record {
  row = record { sees = seen.seen; names = named.names };
  is = record { sees = seen.is.climbs; names = named.is.rises };
  said = begins ∙ ap (λ xs. codes "world " ++ (decimal w ++ (codes " sees" ++ xs))) (seen.is.said ∙ ap (λ xs. numbers seen.seen (codes " true" ++ xs)) named.is.said);
  adds = record {
    worlds = named.adds.worlds ∙ seen.adds.worlds;
    relation = λ u v. (λ h. (seen.adds.relation u v).0 (subst (λ ps. Contains ps (u, v)) named.adds.pairs h), λ h. subst (λ ps. Contains ps (u, v)) (sym named.adds.pairs) ((seen.adds.relation u v).1 h));
    facts = λ u p. (
      λ h. ⊎_elim (λ there. inl (subst (λ fs. Contains fs (u, p)) seen.adds.facts there)) (λ e. inr e) ((named.adds.facts u p).0 h),
      λ h. (named.adds.facts u p).1 (⊎_elim (λ there. inl (subst (λ fs. Contains fs (u, p)) (sym seen.adds.facts) there)) (λ e. inr e) h),
    );
  };
}

row-rest : (w : ℕ) (bytes rest : List ℕ) (row : Row) → bytes ≡ codes "world " ++ (decimal w ++ (codes " sees" ++ rest)) → bytes ≡ world_text w row → rest ≡ numbers row.sees (codes " true" ++ words row.names)
row-rest w bytes rest row begins said =
    append_cancel_left (codes " sees") _ _ (append_cancel_left (decimal w) _ _ (append_cancel_left (codes "world ") _ _ (sym begins ∙ said)))

pub row-unseen : (n w : ℕ) (bytes rest : List ℕ) → bytes ≡ codes "world " ++ (decimal w ++ (codes " sees" ++ rest)) → ((vs other : List ℕ) → IsSeen n 0 rest vs other → ⊥) → IsNoRow n w bytes
row-unseen n w bytes rest begins none row is said =
    none row.sees (words row.names) (record { climbs = is.sees; ends = ends-words row.names; said = row-rest w bytes rest row begins said })

pub row-unnamed : (w : ℕ) (bytes rest names : List ℕ) (old mid : FiniteModel) → bytes ≡ codes "world " ++ (decimal w ++ (codes " sees" ++ rest)) → ReadsSeen w rest names old mid → ((ps : List (List ℕ)) → IsNamed [] names ps → ⊥) → IsNoRow old.worlds w bytes
row-unnamed w bytes rest names old mid begins seen none row is said =
    let same = seen.one row.sees (words row.names) (record { climbs = is.sees; ends = ends-words row.names; said = row-rest w bytes rest row begins said }) in
    none row.names (record { rises = is.names; said = sym same })

pub row-unbegun : (n w : ℕ) (bytes : List ℕ) → ((rest : List ℕ) → bytes ≢ codes "world " ++ (decimal w ++ (codes " sees" ++ rest))) → IsNoRow n w bytes
row-unbegun n w bytes none row is said = none (numbers row.sees (codes " true" ++ words row.names)) said

pub names-end : (b : Bool) (w : ℕ) (bytes rest last : List ℕ) (old now : FiniteModel) → b ≡ nat_eq (length rest) 0 → HasNamed w bytes rest last old now → ((tail : List ℕ) → rest ≢ 32 ∷ tail)
    → MatchBool b (ReadsNames w bytes old now) ((ps : List (List ℕ)) → IsNamed [] bytes ps → ⊥)
names-end true w bytes [] last old now is named none = names-over w bytes [] last old now named refl
names-end false w bytes [] last old now is named none = absurd (false≢true is)
names-end true w bytes (b ∷ rest) last old now is named none = let no-length : nat_eq (suc (length rest)) 0 ≡ false = grind (arith, nat_tests) in absurd (false≢true (sym no-length ∙ sym is))
names-end false w bytes (b ∷ rest) last old now is named none = names-left w bytes (b ∷ rest) last old now named (λ e. cc) none

-- the beginning of a world's line
pub prefix-is : (w : ℕ) (prefix rest : List ℕ) → prefix ≡ codes "world " ++ (decimal w ++ codes " sees") → prefix ++ rest ≡ codes "world " ++ (decimal w ++ (codes " sees" ++ rest))
prefix-is w prefix rest is =
    ap (λ xs. xs ++ rest) is ∙ append_assoc (codes "world ") (decimal w ++ codes " sees") rest ∙ ap (λ xs. codes "world " ++ xs) (append_assoc (decimal w) (codes " sees") rest)

-- the answer of the names is that of the line
pub row-end : (b : Bool) (w : ℕ) (bytes rest names : List ℕ) (old mid new : FiniteModel) → bytes ≡ codes "world " ++ (decimal w ++ (codes " sees" ++ rest)) → ReadsSeen w rest names old mid
    → MatchBool b (ReadsNames w names mid new) ((ps : List (List ℕ)) → IsNamed [] names ps → ⊥) → MatchBool b (ReadsRow w bytes old new) (IsNoRow old.worlds w bytes)
row-end true w bytes rest names old mid new begins seen named = row-read w bytes rest names old mid new begins seen named
row-end false w bytes rest names old mid new begins seen named = row-unnamed w bytes rest names old mid begins seen named
