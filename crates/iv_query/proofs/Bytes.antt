-- Where a text may be cut.
use Rattle.std.proofs.Common.{◌≡◌, ℕ, ◌<◌, Bool, true, List, get_or, take, get_or-take, length-take, arith, inl, inr}
use Rattle.std.specs.List.{prefix_len}
use Rattle.iv_query.specs.Lexing.{is_word_byte}
use Rattle.std.specs.Str.{IsUtf8, IsCharBoundary}
use Rattle.std.proofs.lemmas.Bool.{cases_lt}
use Rattle.std.proofs.lemmas.Bool.Decides.{nat_tests}
use Rattle.std.proofs.lemmas.List.{get_or_past}
use Rattle.std.proofs.lemmas.List.Sums.{prefix_len-le-length, prefix_len_passes}
use Rattle.std.proofs.lemmas.Str.{IsCharBoundary-from_take, IsUtf8-from_ascii}

-- bytes that pass a test which only ASCII passes
pub IsCharBoundary-prefix_len : (p : ℕ → Bool) → ((b : ℕ) → p b ≡ true → b < 128) → (bs : List ℕ) → IsUtf8 bs → IsCharBoundary bs (prefix_len p bs)
IsCharBoundary-prefix_len p low bs utf8 = IsCharBoundary-from_take bs (prefix_len p bs) utf8 (prefix_len-le-length p bs) (IsUtf8-from_ascii (take (prefix_len p bs) bs) ascii)
  where
    ascii : (i : ℕ) → get_or (take (prefix_len p bs) bs) i 0 < 128
    ascii i =
        elim (cases_lt i (prefix_len p bs)) [
          | inl lt ↦ rw (get_or-take (prefix_len p bs) bs i 0 lt) (low (get_or bs i 0) (prefix_len_passes p bs i 0 lt))
          | inr le ↦ rw (get_or_past (take (prefix_len p bs) bs) i 0 (omega (arith, length-take (prefix_len p bs) bs))) (omega arith)
        ]

pub lt-is_word_byte : (b : ℕ) → is_word_byte b ≡ true → b < 128
lt-is_word_byte b e = grind (arith, nat_tests)
