-- Figures as text (Prometheus: Exposition formats, text format 0.0.4).
use Rattle.std.specs.Prelude.{ℕ, ◌==◌, ◌+◌, ◌/◌, ◌%◌, if◌then◌else◌, List, [], ◌∷◌, ◌++◌, drop, flat_map, codes, decimal}

-- a name and a value
abbrev pub Labelled : Type 0
Labelled = List ℕ × List ℕ

-- a backslash, a quotation mark and a newline are escaped
abbrev pub label_byte : ℕ → List ℕ
label_byte b = if b == 92 then codes "\\\\" else if b == 34 then codes "\\\"" else if b == 10 then codes "\\n" else b ∷ []

-- a backslash and a newline are
abbrev pub help_byte : ℕ → List ℕ
help_byte b = if b == 92 then codes "\\\\" else if b == 10 then codes "\\n" else b ∷ []

abbrev pub label_text : Labelled → List ℕ
label_text l = l.0 ++ (codes "=\"" ++ (flat_map label_byte l.1 ++ codes "\""))

-- each after a comma
abbrev pub further_labels : List Labelled → List ℕ
further_labels ls = flat_map (λ (l : Labelled). 44 ∷ label_text l) ls

abbrev pub labels_text : List Labelled → List ℕ
labels_text [] = []
labels_text (l ∷ ls) = codes "{" ++ (label_text l ++ (further_labels ls ++ codes "}"))

abbrev pub end_line : ℕ → List ℕ
end_line value = codes " " ++ (decimal value ++ codes "\n")

-- millionths as a decimal fraction
abbrev pub end_of_millionths : ℕ → List ℕ
end_of_millionths n = codes " " ++ (decimal (n / 1000000) ++ (codes "." ++ (drop 1 (decimal (1000000 + n % 1000000)) ++ codes "\n")))

abbrev pub named_line : (name ending : List ℕ) → List Labelled → ℕ → List ℕ
named_line name ending labels value = name ++ (ending ++ (labels_text labels ++ end_line value))

abbrev pub sample_line : (name : List ℕ) → List Labelled → ℕ → List ℕ
sample_line name labels value = name ++ (labels_text labels ++ end_line value)

-- what the figures of a name are
abbrev pub heading : (name help kind : List ℕ) → List ℕ
heading name help kind =
    codes "# HELP " ++ (name ++ (codes " " ++ (flat_map help_byte help
    ++ (codes "\n# TYPE " ++ (name ++ (codes " " ++ (kind ++ codes "\n")))))))

abbrev pub counter_text : (name help : List ℕ) → List Labelled → ℕ → List ℕ
counter_text name help labels value = heading name help (codes "counter") ++ sample_line name labels value

abbrev pub gauge_text : (name help : List ℕ) → List Labelled → ℕ → List ℕ
gauge_text name help labels value = heading name help (codes "gauge") ++ sample_line name labels value

-- how many values are at most a bound
abbrev pub bucket_line : (name : List ℕ) → List Labelled → (bound : List ℕ) → ℕ → List ℕ
bucket_line name labels bound count =
    name ++ (codes "_bucket{le=\"" ++ (bound ++ (codes "\"" ++ (further_labels labels ++ (codes "}" ++ end_line count)))))

-- a bound, as text, and a count
abbrev pub Counted : Type 0
Counted = List ℕ × ℕ

abbrev pub counted_line : (name : List ℕ) → List Labelled → Counted → List ℕ
counted_line name labels bucket = bucket_line name labels bucket.0 bucket.1

-- the sum is in millionths
abbrev pub sum_line : (name : List ℕ) → List Labelled → ℕ → List ℕ
sum_line name labels sum = name ++ (codes "_sum" ++ (labels_text labels ++ end_of_millionths sum))

abbrev pub histogram_text : (name help : List ℕ) → List Labelled → List Counted → (count sum : ℕ) → List ℕ
histogram_text name help labels buckets count sum =
    heading name help (codes "histogram")
    ++ (flat_map (counted_line name labels) buckets
    ++ (bucket_line name labels (codes "+Inf") count
    ++ (sum_line name labels sum ++ named_line name (codes "_count") labels count)))
