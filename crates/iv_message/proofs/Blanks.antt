-- A text on one line stays as it is.
use Rattle.std.proofs.Common.{◌≡◌, ℕ, suc, ◌==◌, ◌||◌, List, [], ◌∷◌, length, Bool, true, false, cond, nat_lt, refl, sym, ap}
use Rattle.std.specs.List.{list_any}
use Rattle.iv_request.specs.Reading.{value_of}
use Rattle.iv_message.specs.Message.{message_of, message_of_value, most_bytes, on_one_line, too_long}

blank_once : (b : ℕ) (t : Bool) → (b == 10) ≡ t → cond (cond t 32 b == 10) 32 (cond t 32 b) ≡ cond t 32 b
blank_once b true h i = 32
blank_once b false h i = cond (h i) 32 b

pub one_line_twice : (text : List ℕ) → on_one_line (on_one_line text) ≡ on_one_line text
one_line_twice [] i = []
one_line_twice (b ∷ text) i = blank_once b (b == 10) refl i ∷ one_line_twice text i

as_long : (text : List ℕ) → length (on_one_line text) ≡ length text
as_long [] = refl
as_long (b ∷ text) = ap suc (as_long text)

pub message_of-on_one_line : (text : List ℕ) → message_of (on_one_line text) ≡ message_of text
message_of-on_one_line text i = cond (nat_lt most_bytes (as_long text i)) too_long (message_of_value (value_of (one_line_twice text i)))

-- a text without a newline is one line
pub unbroken : (text : List ℕ) → list_any (λ b. b == 10) text ≡ false → on_one_line text ≡ text
unbroken [] h = refl
unbroken (b ∷ text) h = part (unbroken text) (b == 10) h
  where
    part : (list_any (λ c. c == 10) text ≡ false → on_one_line text ≡ text) → (t : Bool) → (t || list_any (λ c. c == 10) text) ≡ false → (cond t 32 b ∷ on_one_line text) ≡ b ∷ text
    part rest true k = cc
    part rest false k = λ i. b ∷ rest k i

pub message_of_value-value_of : (text : List ℕ) → nat_lt most_bytes (length text) ≡ false → list_any (λ b. b == 10) text ≡ false → message_of_value (value_of text) ≡ message_of text
message_of_value-value_of text n h i = cond (sym n i) too_long (message_of_value (value_of (sym (unbroken text h) i)))
