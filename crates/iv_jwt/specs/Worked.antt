-- Examples that are worked out.
use Rattle.std.specs.Prelude.{ℕ, List, [], ◌∷◌, codes}

-- RFC 4231, section 4.3
abbrev pub short_key : List ℕ
short_key = codes "Jefe"

abbrev pub short_message : List ℕ
short_message = codes "what do ya want for nothing?"

abbrev pub short_mac : List ℕ
short_mac =
    91 ∷ 220 ∷ 193 ∷ 70 ∷ 191 ∷ 96 ∷ 117 ∷ 78 ∷ 106 ∷ 4 ∷ 36 ∷ 38 ∷ 8 ∷ 149 ∷ 117 ∷ 199
    ∷ 90 ∷ 0 ∷ 63 ∷ 8 ∷ 157 ∷ 39 ∷ 57 ∷ 131 ∷ 157 ∷ 236 ∷ 88 ∷ 185 ∷ 100 ∷ 236 ∷ 56 ∷ 67 ∷ []

-- RFC 7515, appendix A.1: its key, its header and claims as they are sent, and its signature
abbrev pub example_key : List ℕ
example_key =
    3 ∷ 35 ∷ 53 ∷ 75 ∷ 43 ∷ 15 ∷ 165 ∷ 188 ∷ 131 ∷ 126 ∷ 6 ∷ 101 ∷ 119 ∷ 123 ∷ 166 ∷ 143
    ∷ 90 ∷ 179 ∷ 40 ∷ 230 ∷ 240 ∷ 84 ∷ 201 ∷ 40 ∷ 169 ∷ 15 ∷ 132 ∷ 178 ∷ 210 ∷ 80 ∷ 46 ∷ 191
    ∷ 211 ∷ 251 ∷ 90 ∷ 146 ∷ 210 ∷ 6 ∷ 71 ∷ 239 ∷ 150 ∷ 138 ∷ 180 ∷ 195 ∷ 119 ∷ 98 ∷ 61 ∷ 34
    ∷ 61 ∷ 46 ∷ 33 ∷ 114 ∷ 5 ∷ 46 ∷ 79 ∷ 8 ∷ 192 ∷ 205 ∷ 154 ∷ 245 ∷ 103 ∷ 208 ∷ 128 ∷ 163 ∷ []

abbrev pub example_signed : List ℕ
example_signed = codes "eyJ0eXAiOiJKV1QiLA0KICJhbGciOiJIUzI1NiJ9.eyJpc3MiOiJqb2UiLA0KICJleHAiOjEzMDA4MTkzODAsDQogImh0dHA6Ly9leGFtcGxlLmNvbS9pc19yb290Ijp0cnVlfQ"

abbrev pub example_signature : List ℕ
example_signature = codes "dBjftJeZ4CVP-mB92K27uhbUJU1p1r_wW1gFWFOEjXk"
