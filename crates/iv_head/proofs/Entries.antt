-- Entries say nothing of what came before them.
use Rattle.std.proofs.Common.{◌≡◌, ℕ, List, [], ◌∷◌, ◌++◌, map, Option, Some, None, refl, ap}
use Rattle.std.specs.Prelude.{◌≢◌}
use Rattle.std.specs.List.{AllByRecursion}
use Rattle.iv_rows.specs.Options.{if_some}
use Rattle.iv_journal.specs.Journal.{Line}
use Rattle.iv_once.specs.Names.{Named}
use Rattle.iv_records.specs.Journal.{Entry, IsEntry, Request, journal_of, name_text, position_text, record_of, request_text, texts_of}
use Rattle.iv_head.specs.Begun.{SaysNothing, followed_in, standing_in, standings_in}

first_says : (t : List ℕ) (ts : List (List ℕ)) (ls : List Line) → followed_in t ≡ None → standing_in t ≡ None → SaysNothing (record_of (t ∷ ts) ++ ls)
first_says t [] ls f s = (f, ap (λ o. if_some o [] (λ z. z ∷ standings_in ls)) s)
first_says t (u ∷ us) ls f s = (refl, refl)

entry_says : (e : Entry) (ls : List Line) → texts_of e ≢ [] → SaysNothing (record_of (texts_of e) ++ ls)
entry_says e ls some = by e.requests e.names e.position some
  where
    by : (qs : List Request) (ns : List Named) (p : Option ℕ) → texts_of (record { requests = qs; names = ns; position = p }) ≢ []
        → SaysNothing (record_of (texts_of (record { requests = qs; names = ns; position = p })) ++ ls)
    by (q ∷ qs) ns p h = first_says (request_text q) (map request_text qs ++ (map name_text ns ++ if_some p [] (λ n. position_text n ∷ []))) ls refl refl
    by [] (n ∷ ns) p h = first_says (name_text n) (map name_text ns ++ if_some p [] (λ n. position_text n ∷ [])) ls refl refl
    by [] [] (Some p) h = first_says (position_text p) [] ls refl refl
    by [] [] None h = absurd (h refl)

pub SaysNothing-journal_of : (es : List Entry) → AllByRecursion IsEntry es → SaysNothing (journal_of es)
SaysNothing-journal_of [] w = (refl, refl)
SaysNothing-journal_of (e ∷ es) w = entry_says e (journal_of es) w.0.some
