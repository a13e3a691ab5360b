-- What is recalled of a journal are the requests of its entries.
use Rattle.std.specs.Prelude.{flat_map}
use Rattle.std.proofs.Common.{◌≡◌, ℕ, List, [], ◌∷◌, ◌++◌, Option, Some, None, map, append-nil, refl, ap, ◌∙◌, sym}
use Rattle.std.proofs.lemmas.List.Concat.{flat_map-append}
use Rattle.iv_rows.specs.Options.{if_some}
use Rattle.iv_journal.specs.Journal.{Line}
use Rattle.iv_once.specs.Names.{Named}
use Rattle.iv_head.specs.Begun.{Begun, Followed, Standing, line, lines_of, log_text, standing_text}
use Rattle.iv_records.specs.Journal.{Entry, Request, journal_of, name_text, position_text, record_of, request_text, requests_in, texts_of}
use Rattle.iv_running.specs.Logs.{RecallsRequests, recalled_by, recalled_in, request_line}

abbrev recalled_of : Line → List ℕ
recalled_of l = recalled_by l.text

-- ---- an entry

recalled-record : (ts : List (List ℕ)) → recalled_in (record_of ts) ≡ flat_map recalled_by ts
recalled-record [] = refl
recalled-record (t ∷ []) = refl
recalled-record (t ∷ u ∷ ts) = ap (λ (z : List ℕ). recalled_by t ++ z) (recalled-record (u ∷ ts))

by_requests : (qs : List Request) → flat_map recalled_by (map request_text qs) ≡ flat_map request_line qs
by_requests [] = refl
by_requests (q ∷ qs) = ap (λ (z : List ℕ). request_line q ++ z) (by_requests qs)

by_names : (es : List Named) → flat_map recalled_by (map name_text es) ≡ []
by_names [] = refl
by_names (e ∷ es) = by_names es

abbrev position_texts : Option ℕ → List (List ℕ)
position_texts o = if_some o [] (λ p. position_text p ∷ [])

by_position : (o : Option ℕ) → flat_map recalled_by (position_texts o) ≡ []
by_position None = refl
by_position (Some p) = refl

recalled-texts : (e : Entry) → flat_map recalled_by (texts_of e) ≡ flat_map request_line e.requests
recalled-texts e =
    flat_map-append recalled_by (map request_text e.requests) (map name_text e.names ++ position_texts e.position)
    ∙ (ap (λ (z : List ℕ). flat_map recalled_by (map request_text e.requests) ++ z)
    (flat_map-append recalled_by (map name_text e.names) (position_texts e.position)
    ∙ (ap (λ (z : List ℕ). z ++ flat_map recalled_by (position_texts e.position)) (by_names e.names) ∙ by_position e.position))
    ∙ (append-nil (flat_map recalled_by (map request_text e.requests)) ∙ by_requests e.requests))

recalled-journal : (es : List Entry) → recalled_in (journal_of es) ≡ flat_map request_line (requests_in es)
recalled-journal [] = refl
recalled-journal (e ∷ es) =
    flat_map-append recalled_of (record_of (texts_of e)) (journal_of es)
    ∙ (ap (λ (z : List ℕ). z ++ recalled_in (journal_of es)) (recalled-record (texts_of e) ∙ recalled-texts e)
    ∙ (ap (λ (z : List ℕ). flat_map request_line e.requests ++ z) (recalled-journal es)
    ∙ sym (flat_map-append request_line e.requests (requests_in es))))

-- ---- what is said before them

abbrev standing_lines : List Standing → List Line
standing_lines ss = map (λ s. line (standing_text s)) ss

by_standings : (ss : List Standing) → recalled_in (standing_lines ss) ≡ []
by_standings [] = refl
by_standings (s ∷ ss) = by_standings ss

abbrev log_lines : Option Followed → List Line
log_lines o = if_some o [] (λ f. line (log_text f) ∷ [])

by_log : (o : Option Followed) → recalled_in (log_lines o) ≡ []
by_log None = refl
by_log (Some f) = refl

recalled-begun : (b : Begun) → recalled_in (lines_of b) ≡ []
recalled-begun b =
    flat_map-append recalled_of (log_lines b.log) (standing_lines b.standings)
    ∙ (ap (λ (z : List ℕ). z ++ recalled_in (standing_lines b.standings)) (by_log b.log) ∙ by_standings b.standings)

pub recalls_requests : RecallsRequests
recalls_requests b es =
    flat_map-append recalled_of (lines_of b) (journal_of es)
    ∙ (ap (λ (z : List ℕ). z ++ recalled_in (journal_of es)) (recalled-begun b) ∙ recalled-journal es)
