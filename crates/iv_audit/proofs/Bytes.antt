-- The gateway's lines among those of a journal.
use Rattle.std.proofs.Common.{◌≡◌, ℕ, Bool, true, false, cond, List, [], ◌∷◌, ◌++◌, append_assoc, append-nil, codes, take, map, refl, ap, ◌∙◌, sym}
use Rattle.std.specs.Prelude.{◌==◌, bytes_eq}
use Rattle.hex.specs.Hex.{encode_lower}
use Rattle.std.specs.List.{AllByRecursion, list_any}
use Rattle.iv_journal.specs.Journal.{Line, body_of, bytes_of, digest_of, is_text, mark, no_digest}
use Rattle.iv_journal.specs.Laws.{HasItsText}
use Rattle.iv_audit.specs.Reading.{ended_lines, given_in, line_in, line_of}
use Rattle.iv_audit.specs.Laws.{BytesHaveLines}
use Rattle.iv_audit.proofs.Texts.{or-both_false}

abbrev pub AllText : List Line → Type 0
AllText ls = AllByRecursion (λ l. is_text l.text ≡ true) ls

abbrev pub HaveTexts : Type 0
HaveTexts = (before : List ℕ) (l : Line) → HasItsText before l

pub ended_lines-one : (line body rest : List ℕ) → list_any (λ b. b == 10) body ≡ false
    → ended_lines line (body ++ 10 ∷ rest) ≡ (line ++ body) ∷ ended_lines [] rest
ended_lines-one line [] rest h = ap (λ z. z ∷ ended_lines [] rest) (sym (append-nil line))
ended_lines-one line (b ∷ body) rest h =
    let e = or-both_false (b == 10) (list_any (λ z. z == 10) body) h in
    ap (λ z. cond z (line ∷ ended_lines [] (body ++ 10 ∷ rest)) (ended_lines (line ++ b ∷ []) (body ++ 10 ∷ rest))) e.0
    ∙ (ended_lines-one (line ++ b ∷ []) body rest e.1 ∙ ap (λ z. z ∷ ended_lines [] rest) (append_assoc line (b ∷ []) body))

abbrev pub bodies : List ℕ → List Line → List (List ℕ)
bodies d [] = []
bodies d (l ∷ ls) = body_of d l ∷ bodies (digest_of d l) ls

pub ended_all : (law : HaveTexts) (d : List ℕ) (ls : List Line) (rest : List ℕ) → AllText ls → ended_lines [] (bytes_of d ls ++ rest) ≡ bodies d ls ++ ended_lines [] rest
ended_all law d [] rest a = refl
ended_all law d (l ∷ ls) rest a =
    ap (ended_lines []) (append_assoc (body_of d l) (10 ∷ bytes_of (digest_of d l) ls) rest)
    ∙ (ended_lines-one [] (body_of d l) (bytes_of (digest_of d l) ls ++ rest) ((law d l).one a.0)
    ∙ ap (λ z. body_of d l ∷ z) (ended_all law (digest_of d l) ls rest a.1))

mark_back : (b : Bool) (rest : List ℕ) → bytes_eq (take 9 (mark b ++ rest)) (mark true) ≡ b
mark_back true rest = refl
mark_back false rest = refl

-- a line by its bytes
line_back : (law : HaveTexts) (d : List ℕ) (l : Line) → line_of (body_of d l) ≡ l
line_back law d l = (λ i. record { is_last = mark_back l.is_last (encode_lower (digest_of d l) ++ (codes "\"," ++ l.text)) i; text = (law d l).text i })

pub lines_back : (law : HaveTexts) (d : List ℕ) (ls : List Line) → map line_of (bodies d ls) ≡ ls
lines_back law d [] = refl
lines_back law d (l ∷ ls) = (λ i. line_back law d l i ∷ lines_back law (digest_of d l) ls i)

-- the gateway's line of a line as it stands
abbrev pub given_by : List ℕ → Line
given_by line = line_in (line_of line)

pub map-given_by : (law : HaveTexts) (d : List ℕ) (ls : List Line) → map given_by (bodies d ls) ≡ map line_in ls
map-given_by law d [] = refl
map-given_by law d (l ∷ ls) = (λ i. line_in (line_back law d l i) ∷ map-given_by law (digest_of d l) ls i)

pub ended_lines-bytes_of : (law : HaveTexts) (d : List ℕ) (ls : List Line) → AllText ls → ended_lines [] (bytes_of d ls) ≡ bodies d ls
ended_lines-bytes_of law d ls a = ap (ended_lines []) (sym (append-nil (bytes_of d ls))) ∙ (ended_all law d ls [] a ∙ append-nil (bodies d ls))

pub BytesHaveLines-HaveTexts : HaveTexts → BytesHaveLines
BytesHaveLines-HaveTexts law ls a = ap (λ z. given_in (map line_of z)) (ended_lines-bytes_of law no_digest ls a) ∙ ap given_in (lines_back law no_digest ls)
