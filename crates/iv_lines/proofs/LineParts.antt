-- Lines that are put together of parts.
use Rattle.std.proofs.Common.{◌≡◌, ℕ, List, [], ◌++◌, ap, ◌∙◌, sym, append_assoc}
use Rattle.std.specs.Prelude.{codes, decimal, Result, Ok, Err, OnOk}
use Rattle.json.proofs.OnLiterals.{json_on_literals}
use Rattle.iv_zset.specs.Weights.{Weighed}
use Rattle.iv_machine.specs.Act.{reply, done, subscribed, change, ended}
use Rattle.iv_machine.specs.declared.Cause.{Cause}
use Rattle.iv_machine.specs.declared.Cause.TheVariants as cause
use Rattle.iv_lines.specs.Parts.{change_behind, change_text, ended_text, done_text, session_part, subscribed_text}
use Rattle.iv_command.specs.RowTexts.{rows_text}
use Rattle.iv_lines.specs.Texts.{line_text}

-- a line ends in `}` and a newline
ends_so : (r a n b k : List ℕ) → r ++ ((a ++ n) ++ ((b ++ k) ++ codes "}\n")) ≡ (r ++ (a ++ (n ++ (b ++ (k ++ codes "}"))))) ++ codes "\n"
ends_so r a n b k = simp append_assoc

ends_so_with : (r c a n b k : List ℕ) → r ++ (c ++ ((a ++ n) ++ ((b ++ k) ++ codes "}\n"))) ≡ (r ++ (c ++ (a ++ (n ++ (b ++ (k ++ codes "}")))))) ++ codes "\n"
ends_so_with r c a n b k = simp append_assoc

pub change_text-line_text : (n k : ℕ) (es : Weighed) → change_text n k (rows_text es) ≡ line_text (change n k es)
unfolding json_on_literals
change_text-line_text n k es = ap (λ v. codes "{\"changes\":" ++ v) (ends_so (rows_text es) (codes ",\"session\":") (decimal n) (codes ",\"sub\":") (decimal k))

behind_parts : (a d b k e : List ℕ) → (((a ++ d) ++ b) ++ k) ++ e ≡ (a ++ d) ++ ((b ++ k) ++ e)
behind_parts a d b k e = append_assoc ((a ++ d) ++ b) k e ∙ (append_assoc (a ++ d) b (k ++ e) ∙ ap (λ v. (a ++ d) ++ v) (sym (append_assoc b k e)))

pub change_behind-change_text : (n k : ℕ) (rows : List ℕ) → change_behind (session_part n) k rows ≡ change_text n k rows
change_behind-change_text n k rows =
    ap (λ v. codes "{\"changes\":" ++ (rows ++ v)) (behind_parts (codes ",\"session\":") (decimal n) (codes ",\"sub\":") (decimal k) (codes "}\n"))

pub ended_text-line_text : (n k : ℕ) (why : Cause) (es : Weighed) → ended_text n k why (rows_text es) ≡ line_text (ended n k why es)
unfolding json_on_literals
ended_text-line_text n k cause.Privilege es = ap (λ v. codes "{\"changes\":" ++ v) (ends_so_with (rows_text es) (codes ",\"ended\":\"privilege\"") (codes ",\"session\":") (decimal n) (codes ",\"sub\":") (decimal k))
ended_text-line_text n k cause.Limit es = ap (λ v. codes "{\"changes\":" ++ v) (ends_so_with (rows_text es) (codes ",\"ended\":\"limit\"") (codes ",\"session\":") (decimal n) (codes ",\"sub\":") (decimal k))

pub done_text-line_text : (n : ℕ) → done_text n ≡ line_text (reply n done)
unfolding json_on_literals
done_text-line_text n = ap (λ v. codes "{\"ok\":true,\"session\":" ++ v) (newline (decimal n)) where
  newline : (n : List ℕ) → n ++ codes "}\n" ≡ (n ++ codes "}") ++ codes "\n"
  newline n = simp append_assoc

pub subscribed_text-line_text : (n k : ℕ) → subscribed_text n k ≡ line_text (reply n (subscribed k))
unfolding json_on_literals
subscribed_text-line_text n k = ap (λ v. codes "{\"ok\":true" ++ v) (ends_so [] (codes ",\"session\":") (decimal n) (codes ",\"sub\":") (decimal k))

-- texts that are appended one after another
pub append-two : (t a b m n : List ℕ) → m ≡ t ++ a → n ≡ m ++ b → n ≡ t ++ (a ++ b)
append-two t a b m n h k = k ∙ (ap (λ v. v ++ b) h ∙ append_assoc t a b)

pub append-three : (t a b c l m n : List ℕ) → l ≡ t ++ a → m ≡ l ++ b → n ≡ m ++ c → n ≡ t ++ (a ++ (b ++ c))
append-three t a b c l m n h k e = append-two t a (b ++ c) l n h (append-two l b c m n k e)

pub append-four : (t a b c d k l m n : List ℕ) → k ≡ t ++ a → l ≡ k ++ b → m ≡ l ++ c → n ≡ m ++ d → n ≡ t ++ (a ++ (b ++ (c ++ d)))
append-four t a b c d k l m n h i j e = append-two t a (b ++ (c ++ d)) k n h (append-three k b c d l m n i j e)

-- what a call appends behind them, where it succeeds
pub OnOk-append_two : {E : Type 0} (r : Result (Unit {0}) E) (t a b m n : List ℕ) → m ≡ t ++ a → OnOk r (n ≡ m ++ b) → OnOk r (n ≡ t ++ (a ++ b))
OnOk-append_two (Ok x) t a b m n h k = append-two t a b m n h k
OnOk-append_two (Err x) t a b m n h k = tt

pub then_three : {E : Type 0} (r : Result (Unit {0}) E) (t a b c l m n : List ℕ) → l ≡ t ++ a → m ≡ l ++ b → OnOk r (n ≡ m ++ c) → OnOk r (n ≡ t ++ (a ++ (b ++ c)))
then_three r t a b c l m n h k e = OnOk-append_two r t a (b ++ c) l n h (OnOk-append_two r l b c m n k e)

pub OnOk-append_four : {E : Type 0} (r : Result (Unit {0}) E) (t a b c d k l m n : List ℕ) → k ≡ t ++ a → l ≡ k ++ b → m ≡ l ++ c → OnOk r (n ≡ m ++ d) → OnOk r (n ≡ t ++ (a ++ (b ++ (c ++ d))))
OnOk-append_four r t a b c d k l m n h i j e = OnOk-append_two r t a (b ++ (c ++ d)) k n h (then_three r k b c d l m n i j e)

-- what a call appends is the text of the line
pub OnOk-append_same : {E : Type 0} (r : Result (Unit {0}) E) (t a b n : List ℕ) → OnOk r (n ≡ t ++ a) → a ≡ b → OnOk r (n ≡ t ++ b)
OnOk-append_same (Ok x) t a b n h e = h ∙ ap (λ v. t ++ v) e
OnOk-append_same (Err x) t a b n h e = tt
