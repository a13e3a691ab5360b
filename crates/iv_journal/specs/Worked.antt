-- A record of a part and a last text as bytes, whose digests another program made.
use Rattle.std.specs.Prelude.{ℕ, false, true, List, [], ◌∷◌, ◌++◌, codes}
use Rattle.iv_journal.specs.Journal.{Line}

abbrev pub two_lines : List Line
two_lines = record { is_last = false; text = codes "\"at\":1}" } ∷ record { is_last = true; text = codes "\"at\":2}" } ∷ []

abbrev pub two_lines_text : List ℕ
two_lines_text =
    codes "{\"part\":\"d9ab0b2d9abef590ea66eeec518ad8a5c905f2c45493af849c9d5a8330725c26\",\"at\":1}" ++ 10 ∷
    (codes "{\"last\":\"0251fcc038196768d303a3da5f48791306962da412e33454cca79d83e2498310\",\"at\":2}" ++ 10 ∷ [])
