-- Lines of a file of tokens, by where they are cut.
use Rattle.std.proofs.Common.{◌≡◌, ℕ, Bool, true, false, cond, List, [], ◌∷◌, Option, Some, None, ap, ◌∙◌, sym, append-nil}
use Rattle.iv_records.specs.Cuts.{cut_at}
use Rattle.iv_clients.specs.Tokens.{lines_of}
use Rattle.iv_clients.proofs.Lines.{lines_of-cut_at, lines_of-not_cut}
use Rattle.iv_tokens.specs.Entries.{Entry, entries_of}
use Rattle.iv_tokens.specs.Lines.{behind_entries}

-- what a line makes of the entries in front of it, whatever follows
abbrev pub Leads : Bool → (old new : List Entry) → (line : List ℕ) → Type 0
Leads b old new line = (ls : List (List ℕ)) → behind_entries old (entries_of (line ∷ ls)) ≡ cond b (behind_entries new (entries_of ls)) None

pub behind_entries-last : (b : Bool) (old new : List Entry) (line : List ℕ) → Leads b old new line → b ≡ true
    → Some new ≡ behind_entries old (entries_of (line ∷ []))
behind_entries-last b old new line h e = sym (h [] ∙ (ap (λ z. cond z (behind_entries new (Some [])) None) e ∙ ap Some (append-nil new)))

pub behind_entries-last_wrong : (b : Bool) (old new : List Entry) (line : List ℕ) → Leads b old new line → b ≡ false
    → None ≡ behind_entries old (entries_of (line ∷ []))
behind_entries-last_wrong b old new line h e = sym (h [] ∙ ap (λ z. cond z (behind_entries new (Some [])) None) e)

pub behind_entries-end : (es : List Entry) (rest : List ℕ) (all : Option (List Entry)) → None ≡ cut_at 10 rest → behind_entries es (entries_of (lines_of rest)) ≡ all → behind_entries es (entries_of (rest ∷ [])) ≡ all
behind_entries-end es rest all h e = ap (λ ls. behind_entries es (entries_of ls)) (sym (lines_of-not_cut rest (sym h))) ∙ e

pub behind_entries-next : (b : Bool) (old new : List Entry) (rest line later : List ℕ) (all : Option (List Entry)) → Some (line, later) ≡ cut_at 10 rest → Leads b old new line
    → b ≡ true → behind_entries old (entries_of (lines_of rest)) ≡ all → behind_entries new (entries_of (lines_of later)) ≡ all
behind_entries-next b old new rest line later all h k e g = sym (k (lines_of later) ∙ ap (λ z. cond z (behind_entries new (entries_of (lines_of later))) None) e) ∙ (ap (λ ls. behind_entries old (entries_of ls)) (sym (lines_of-cut_at rest (line, later) (sym h))) ∙ g)

pub behind_entries-wrong : (b : Bool) (old new : List Entry) (rest line later : List ℕ) (all : Option (List Entry)) → Some (line, later) ≡ cut_at 10 rest → Leads b old new line
    → b ≡ false → behind_entries old (entries_of (lines_of rest)) ≡ all → None ≡ all
behind_entries-wrong b old new rest line later all h k e g = sym (k (lines_of later) ∙ ap (λ z. cond z (behind_entries new (entries_of (lines_of later))) None) e) ∙ (ap (λ ls. behind_entries old (entries_of ls)) (sym (lines_of-cut_at rest (line, later) (sym h))) ∙ g)
