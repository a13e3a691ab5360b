-- Examples that are worked out.
use Rattle.std.specs.Prelude.{ℕ, List, codes}
use Rattle.iv_pages.specs.Figures.{Labelled}

-- tags that are known, one of them weak (RFC 9110, section 13.1.2)
abbrev pub known_list : List ℕ
known_list = codes "\"xyzzy\", W/\"c3p0\""

-- Prometheus: Exposition formats, its example of escapes
abbrev pub escaped_label : Labelled
escaped_label = (codes "path", codes "C:\\DIR\\\"FILE\"\n")

abbrev pub escaped_line : List ℕ
escaped_line = codes "files{path=\"C:\\\\DIR\\\\\\\"FILE\\\"\\n\"} 7\n"
