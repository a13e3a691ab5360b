-- How the logic stores what a catalog holds.
use Rattle.std.specs.Prelude.{ℕ, cond, ◌==◌, List, ◌≡◌, ◌⊎◌, refl}
use Rattle.std.specs.Coded.{Coded, code_by, coded_ℕ, coded_list, coded×, coded⊎}
use mathlib.Core.Logic.{inl, inr}
use Rattle.iv_rows.specs.Columns.{Column}
use Rattle.iv_rows.specs.declared.value.Kind.{Kind}
use Rattle.iv_rows.specs.declared.value.Kind.TheVariants.{Int, Text, Flag}
use Rattle.iv_algebra.specs.Codes.{shape_code}
use Rattle.iv_algebra.specs.Shapes.{Shape}
use Rattle.iv_bind.specs.Catalogs.{BoundQuery, Held, Table, View, CatalogEntry}

abbrev kind_number : Kind → ℕ
kind_number Int = 0
kind_number Text = 1
kind_number Flag = 2

abbrev kind_from : ℕ → Kind
kind_from n = cond (n == 0) Int (cond (n == 1) Text Flag)

pub kind_from-kind_number : (k : Kind) → kind_from (kind_number k) ≡ k
kind_from-kind_number Int = refl
kind_from-kind_number Text = refl
kind_from-kind_number Flag = refl

abbrev pub kind_code : Coded Kind
kind_code = code_by ℕ coded_ℕ kind_number kind_from kind_from-kind_number

abbrev pub column_code : Coded Column
column_code = code_by (List ℕ × Kind) (coded× (coded_list coded_ℕ) kind_code) (λ c. (c.name, c.kind)) (λ p. record { name = p.0; kind = p.1 }) (λ _. refl)

abbrev pub answer_code : Coded BoundQuery
answer_code =
    code_by (Shape × (List Column × List ℕ)) (coded× shape_code (coded× (coded_list column_code) (coded_list coded_ℕ)))
    (λ a. (a.plan, (a.schema, a.needs))) (λ p. record { plan = p.0; schema = p.1.0; needs = p.1.1 }) (λ _. refl)

abbrev held_parts : Held → List Column ⊎ BoundQuery
held_parts (Table columns) = inl columns
held_parts (View answer) = inr answer

abbrev held_from : List Column ⊎ BoundQuery → Held
held_from (inl columns) = Table columns
held_from (inr answer) = View answer

pub held_from-held_parts : (h : Held) → held_from (held_parts h) ≡ h
held_from-held_parts (Table columns) = refl
held_from-held_parts (View answer) = refl

abbrev pub held_code : Coded Held
held_code = code_by (List Column ⊎ BoundQuery) (coded⊎ (coded_list column_code) answer_code) held_parts held_from held_from-held_parts

-- what a catalog holds
abbrev pub entries_code : Coded (List CatalogEntry)
entries_code =
    coded_list (code_by (List ℕ × (ℕ × Held)) (coded× (coded_list coded_ℕ) (coded× coded_ℕ held_code))
    (λ e. (e.name, (e.rel, e.held))) (λ p. record { name = p.0; rel = p.1.0; held = p.1.1 }) (λ _. refl))
