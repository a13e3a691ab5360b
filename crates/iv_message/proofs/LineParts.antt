-- Lines are put together of parts, and what is told holds no float.
use Rattle.std.proofs.Common.{◌≡◌, ◌∙◌, ℕ, ℤ, pos, negsuc, List, [], ◌∷◌, ◌++◌, map, Bool, true, false, ◌||◌, Option, Some, None, option_map, Ordering, Less, Equal, Greater, nat_cmp, append_assoc, refl, ap}
use Rattle.std.specs.Cmp.Lexicographic.{slice_cmp}
use Rattle.std.specs.Ordering.{match_ordering}
use Rattle.std.specs.Prelude.{codes, decimal}
use Rattle.json.proofs.OnLiterals.{json_on_literals}
use Rattle.serde_json.specs.Data.{Data, string, Members, no_members, member, put}
use Rattle.serde_json.specs.View.{items_of}
use Rattle.serde_json.specs.Written.{compact_text, has_float, items_have_float, members_have_float}
use Rattle.iv_rows.specs.Columns.{Column}
use Rattle.iv_zset.specs.Weights.{Weighed}
use Rattle.iv_machine.specs.declared.Cause.{Cause}
use Rattle.iv_machine.specs.declared.Cause.TheVariants as cause
use Rattle.iv_command.specs.RowTexts.{rows_text}
use Rattle.iv_request.specs.Asked.{column_data}
use Rattle.iv_message.specs.Parts.{cause_key, own_text}
use Rattle.iv_message.specs.Seen.{id_data}
use Rattle.iv_message.specs.Told.{changed, over, opened_members, told_text, with_id}
use Rattle.iv_message.specs.declared.message.Id.{Id}
use Rattle.iv_message.specs.declared.message.Id.TheVariants as id

-- ---- texts that are appended one after another

pub two_appended : (t a b m n : List ℕ) → m ≡ t ++ a → n ≡ m ++ b → n ≡ t ++ (a ++ b)
two_appended t a b m n h k = k ∙ (ap (λ v. v ++ b) h ∙ append_assoc t a b)

pub append-three : (t a b c l m n : List ℕ) → l ≡ t ++ a → m ≡ l ++ b → n ≡ m ++ c → n ≡ t ++ (a ++ (b ++ c))
append-three t a b c l m n h k e = two_appended t a (b ++ c) l n h (two_appended l b c m n k e)

pub append-four : (t a b c d k l m n : List ℕ) → k ≡ t ++ a → l ≡ k ++ b → m ≡ l ++ c → n ≡ m ++ d → n ≡ t ++ (a ++ (b ++ (c ++ d)))
append-four t a b c d k l m n h i j e = two_appended t a (b ++ (c ++ d)) k n h (append-three k b c d l m n i j e)

pub append-six : (t a b c d e f i j k l m n : List ℕ) → i ≡ t ++ a → j ≡ i ++ b → k ≡ j ++ c → l ≡ k ++ d → m ≡ l ++ e → n ≡ m ++ f
    → n ≡ t ++ (a ++ (b ++ (c ++ (d ++ (e ++ f)))))
append-six t a b c d e f i j k l m n o p q r s u =
    two_appended t a (b ++ (c ++ (d ++ (e ++ f)))) i n o (two_appended i b (c ++ (d ++ (e ++ f))) j n p (append-four j c d e f k l m n q r s u))

-- a line ends in `}` and a newline
ends_so : (r a n : List ℕ) → r ++ (a ++ (n ++ codes "}\n")) ≡ (r ++ (a ++ (n ++ codes "}"))) ++ codes "\n"
ends_so r a n = simp append_assoc

pub told_text-changed : (own : ℕ) (es : Weighed) → codes "{\"changes\":" ++ (rows_text es ++ own_text own) ≡ told_text (changed own es)
unfolding json_on_literals
told_text-changed own es = ap (λ v. codes "{\"changes\":" ++ v) (ends_so (rows_text es) (codes ",\"sub\":") (decimal own))

over_so : (r c q a n : List ℕ) → r ++ ((c ++ q) ++ (a ++ (n ++ codes "}\n"))) ≡ (r ++ (c ++ (q ++ (a ++ (n ++ codes "}"))))) ++ codes "\n"
over_so r c q a n = simp append_assoc

pub told_text-over : (own : ℕ) (rel : List ℕ) (why : Cause) (es : Weighed)
    → codes "{\"changes\":" ++ (rows_text es ++ ((cause_key why ++ compact_text (string rel)) ++ own_text own)) ≡ told_text (over own rel why es)
unfolding json_on_literals
told_text-over own rel cause.Privilege es = ap (λ v. codes "{\"changes\":" ++ v) (over_so (rows_text es) (codes ",\"ended\":\"privilege\",\"on\":") (compact_text (string rel)) (codes ",\"sub\":") (decimal own))
told_text-over own rel cause.Limit es = ap (λ v. codes "{\"changes\":" ++ v) (over_so (rows_text es) (codes ",\"ended\":\"limit\",\"on\":") (compact_text (string rel)) (codes ",\"sub\":") (decimal own))

-- ---- no float

put_plain : (k : List ℕ) (d : Data) (ms : Members) → has_float d ≡ false → members_have_float ms ≡ false → members_have_float (put k d ms) ≡ false
put_plain k d no_members h e = λ i. h i || false
put_plain k d (member l f ms) h e = part (put_plain k d ms h (right (has_float f) (members_have_float ms) e)) (slice_cmp nat_cmp k l)
  where
    left : (a b : Bool) → (a || b) ≡ false → a ≡ false
    left false b i = refl
    left true b i = i

    right : (a b : Bool) → (a || b) ≡ false → b ≡ false
    right false b i = i
    right true b i = cc

    part : members_have_float (put k d ms) ≡ false → (o : Ordering) → members_have_float (match_ordering o (member k d (member l f ms)) (member l d ms) (member l f (put k d ms))) ≡ false
    part rest Less i = h i || e i
    part rest Equal i = h i || right (has_float f) (members_have_float ms) e i
    part rest Greater i = left (has_float f) (members_have_float ms) e i || rest i

whole_plain : (z : ℤ) → has_float (id_data (id.Whole z)) ≡ false
whole_plain (pos n) = refl
whole_plain (negsuc n) = refl

pub id_plain : (i : Id) → has_float (id_data i) ≡ false
id_plain (id.Natural n) = refl
id_plain (id.Whole z) = whole_plain z
id_plain (id.Text t) = refl

pub has_float-with_id : (i : Option Id) (ms : Members) → members_have_float ms ≡ false → has_float (with_id (option_map id_data i) ms) ≡ false
has_float-with_id None ms h = h
has_float-with_id (Some i) ms h = put_plain (codes "id") (id_data i) ms (id_plain i) h

columns_plain : (cs : List Column) → items_have_float (items_of (map column_data cs)) ≡ false
columns_plain [] = refl
columns_plain (c ∷ cs) = columns_plain cs

no_more : (b : Bool) → b ≡ false → (b || false) ≡ false
no_more b h i = h i || false

pub has_float-opened : (i : Option Id) (own : ℕ) (cs : List Column) → has_float (with_id (option_map id_data i) (opened_members own cs)) ≡ false
has_float-opened i own cs = has_float-with_id i (opened_members own cs) (no_more (items_have_float (items_of (map column_data cs))) (columns_plain cs))
