-- A step from its answer, and the lines of a list of commands one by one.
use Rattle.std.proofs.Common.{◌≡◌, ℕ, Bool, true, false, ◌&&◌, List, [], ◌∷◌, ◌++◌, length, refl, sym, ap, ◌∙◌, append_assoc, arith, subst}
use Rattle.std.specs.List.{list_all}
use Rattle.std.specs.Prelude.{Result, Ok, Err, map}
use Rattle.iv_rows.specs.Columns.{Column, has_columns, has_distinct_names}
use Rattle.iv_rows.specs.Names.{is_name}
use Rattle.iv_machine.specs.Act as machine
use Rattle.iv_machine.specs.Act.{create_table}
use Rattle.iv_machine.specs.Machine.{outcome, run, step}
use Rattle.iv_machine.specs.State.{State}
use Rattle.iv_machine.specs.Well.{is_well_act, is_well_command}
use Rattle.iv_store.specs.Answering.{IsCountedBy, IsNext, IsSaid, IsStep, seen}
use Rattle.iv_command.specs.Answers.{AreLinesOfAnswer}
use Rattle.iv_store.specs.Counting.{AreCountedWhereAccepted}
use Rattle.iv_store.specs.Store.{IsSoundStore, Store, at, frame_of}
use Rattle.iv_store.specs.Engine.{ChangesWhereAccepted, IsBehind, Engine}
use Rattle.iv_database.specs.Stands.{Stands}
use Rattle.iv_command.specs.Views.{line_of, refusal_of, reply_of}
use Rattle.iv_command.specs.declared.answer.Answer.{Answer}
use Rattle.iv_command.specs.declared.stop.Stop.{Stop}
use Rattle.iv_command.specs.declared.stop.Stop.TheVariants.{Refused, Memory}

-- ---- one step

module _ (e new : Store) (n : ℕ) (act : machine.Act) (lines : List machine.Line) where
  abbrev told : machine.Command
  told = record { session = n; act = act }

  pub said_lines : (a : Result Answer Stop) → IsStep e n act a new → AreLinesOfAnswer n a lines → IsSaid e told lines
  said_lines (Ok a) h is = λ T s. let x = h.answer T s in is ∙ (λ i. machine.reply n (x.1 i) ∷ x.2 i) ∙ sym (ap (λ o. (outcome (at e T) told o).lines) x.0)
  said_lines (Err (Refused r)) h is = λ T s. is ∙ sym (ap (λ o. (outcome (at e T) told o).lines) (h.told T s))
  said_lines (Err Memory) h is = absurd is

  pub left_state : (a : Result Answer Stop) → IsStep e n act a new → AreLinesOfAnswer n a lines → IsNext e told new
  left_state (Ok a) h is = λ T s. subst (λ (t : State). IsBehind t (seen new)) (sym (ap (λ o. (outcome (at e T) told o).state) (h.answer T s).0)) (h.left T s)
  left_state (Err (Refused r)) h is = λ T s. subst (λ (t : State). IsBehind t (seen new)) (sym (ap (λ o. (outcome (at e T) told o).state) (h.told T s)))
      (record { frame = ap frame_of (sym h.kept); rows = subst (λ (v : Store). Stands T v.tables) (sym h.kept) s })
  left_state (Err Memory) h is = absurd is

  -- a refused one leaves all as it was
  pub unchanged : (a : Result Answer Stop) → IsStep e n act a new → AreLinesOfAnswer n a lines → ChangesWhereAccepted e lines new
  unchanged (Ok a) h is = λ k r no. absurd (h.accepts r (refused_by a k r (sym is ∙ no)))
    where
      refused_by : (a : Answer) (k : ℕ) (r : machine.Refusal) → machine.reply n (reply_of a.reply) ∷ map line_of a.changes.items ≡ machine.reply k (machine.refused r) ∷ [] → reply_of a.reply ≡ machine.refused r
      refused_by a k r both = cc
  unchanged (Err (Refused x)) h is = λ k r no. h.kept
  unchanged (Err Memory) h is = absurd is

  -- where it is accepted it counts the rounds
  pub counted_by : (a : Result Answer Stop) → IsStep e n act a new → AreLinesOfAnswer n a lines → IsCountedBy e told lines new
  counted_by (Ok a) h is = λ accepted. h.rounds
  counted_by (Err (Refused r)) h is = λ accepted. absurd (accepted n (refusal_of r) is)
  counted_by (Err Memory) h is = absurd is

  pub left_sound : (a : Result Answer Stop) → IsSoundStore e → IsStep e n act a new → AreLinesOfAnswer n a lines → IsSoundStore new
  left_sound (Ok a) sound h is = h.sound
  left_sound (Err (Refused r)) sound h is = subst IsSoundStore (sym h.kept) sound
  left_sound (Err Memory) sound h is = absurd is

-- what is seen of an engine with the store
abbrev pub shown_by : Store → (failed : Bool) → Engine
shown_by e failed = record (seen e) { failed = failed }

pub AreCountedWhereAccepted-IsCountedBy : (e new : Store) (old : Engine) (failed : Bool) (c : machine.Command) (lines : List machine.Line) → failed ≡ false → shown_by e failed ≡ old → IsCountedBy e c lines new
    → AreCountedWhereAccepted old c lines (shown_by new failed)
AreCountedWhereAccepted-IsCountedBy e new old failed c lines off is h = subst (λ (v : Engine). AreCountedWhereAccepted v c lines (shown_by new failed)) is
    (subst (λ b. AreCountedWhereAccepted (shown_by e b) c lines (shown_by new b)) (sym off) h)

-- ---- commands that keep the rules on shape

and_second : (b c : Bool) → (b && c) ≡ true → c ≡ true
and_second true c h = h
and_second false c h = cc

pub has_columns-is_well_act : (name owner : List ℕ) (columns : List Column) → is_well_act (create_table name owner columns) ≡ true → (has_columns columns && has_distinct_names columns) ≡ true
has_columns-is_well_act name owner columns h = and_second (is_name owner) (has_columns columns && has_distinct_names columns) (and_second (is_name name) (is_name owner && (has_columns columns && has_distinct_names columns)) h)

pub list_all-well_rest : (c : machine.Command) (cs : List machine.Command) → list_all is_well_command (c ∷ cs) ≡ true → list_all is_well_command cs ≡ true
list_all-well_rest c cs h = and_second (is_well_command c) (list_all is_well_command cs) h

-- ---- many

pub run-said : (t : State) (cmd : machine.Command) (rest : List machine.Command) (old said new all : List machine.Line) → new ≡ old ++ said → said ≡ (step t cmd).lines → old ++ (run t (cmd ∷ rest)).lines ≡ all → new ++ (run (step t cmd).state rest).lines ≡ all
run-said t cmd rest old said new all e f h =
    (λ i. e i ++ (run (step t cmd).state rest).lines) ∙ append_assoc old said (run (step t cmd).state rest).lines
    ∙ ap (λ ls. old ++ (ls ++ (run (step t cmd).state rest).lines)) f ∙ h

pub nil-of_length_zero : {A : Type 0} (xs : List A) → length xs ≡ 0 → xs ≡ []
nil-of_length_zero [] h = refl
nil-of_length_zero (x ∷ xs) h = absurd (omega arith)

pub append-nothing : {A : Type 0} (xs : List A) → xs ≡ xs ++ []
append-nothing [] = refl
append-nothing (x ∷ xs) = ap (λ ys. x ∷ ys) (append-nothing xs)
