-- A bit of a word, set, cleared and read.
use Rattle.std.proofs.Common.{◌≡◌, ◌≢◌, ℕ, ◌*◌, ◌-◌, ◌/◌, ◌%◌, ◌^◌, ◌<◌, Bool, true, false, nat_eq, bit_and, bit_or, ap, w64}
use Rattle.std.proofs.lemmas.Nat.Bits.{shr_and_one, bit_at_set_same, bit_at_set_other, bit_at_clear_same, bit_at_clear_other}
use Rattle.lw_rows.specs.Private.RowWords.{has_bit}

-- a word in which one bit has that value and each other is as in the earlier word
pub record Puts (old new k : ℕ) (value : Bool) : Type 0 where
  pub here : has_bit new k ≡ value
  pub others : (j : ℕ) → j < 64 → j ≢ k → has_bit new j ≡ has_bit old j

-- `old | 1 << k` sets the bit
pub puts_true : (old k : ℕ) → k < 64 → Puts old (bit_or old (1 * 2 ^ k % 2 ^ 64)) k true
puts_true old k h = record {
  here = ap (λ b. nat_eq b 1) (bit_at_set_same w64 old k h);
  others = λ j _ apart. ap (λ b. nat_eq b 1) (bit_at_set_other w64 old k h j apart);
}

-- `old & !(1 << k)` clears the bit
pub puts_false : (old k : ℕ) → k < 64 → Puts old (bit_and old (2 ^ 64 - 1 - 1 * 2 ^ k % 2 ^ 64)) k false
puts_false old k h = record {
  here = ap (λ b. nat_eq b 1) (bit_at_clear_same w64 old k h);
  others = λ j within apart. ap (λ b. nat_eq b 1) (bit_at_clear_other w64 old k h j within apart);
}

-- `word >> k & 1 == 1` reads the bit
pub reads_bit : (word k : ℕ) → nat_eq (bit_and (word / 2 ^ k) 1) 1 ≡ has_bit word k
reads_bit word k = ap (λ b. nat_eq b 1) (shr_and_one word k)
