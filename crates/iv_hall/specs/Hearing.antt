-- For contracts of the code: the lines of the machine, as they are told to those who follow.
use Rattle.std.specs.Prelude.{ℕ, ◌==◌, if◌then◌else◌, List, [], ◌∷◌, flat_map, Option, Some, None}
use Rattle.iv_access.specs.Rights.{Name}
use Rattle.iv_machine.specs.Act.{Line, reply, change, ended}
use Rattle.iv_message.specs.Told.{Told, changed, over, told_text}
use Rattle.iv_clients.specs.Clients.{Sub, own_line, own_lines}
use Rattle.iv_clients.specs.Feeds.{Feed}
use Rattle.iv_clients.specs.Kept.{Kept, holding_all}

-- the feed that a line is of
abbrev pub feed_told : Line → Option ℕ
feed_told (reply n r) = None
feed_told (change n k rows) = Some k
feed_told (ended n k why rows) = Some k

-- the feed that a line ends
abbrev pub feed_ended : Line → Option ℕ
feed_ended (reply n r) = None
feed_ended (change n k rows) = None
feed_ended (ended n k why rows) = Some k

-- what is told of a line for an own number, if its feed reads the relation
abbrev pub told_as : Name → Line → ℕ → List Told
told_as rel (reply n r) own = []
told_as rel (change n k rows) own = changed own rows ∷ []
told_as rel (ended n k why rows) own = over own rel why rows ∷ []

-- the text of it
abbrev pub text_as : Name → Line → ℕ → List ℕ
text_as rel (reply n r) own = []
text_as rel (change n k rows) own = told_text (changed own rows)
text_as rel (ended n k why rows) own = told_text (over own rel why rows)

-- what is told of it for an own number that follows the feed
abbrev pub told_for : ℕ → Name → Line → Sub → List Told
told_for feed rel l s = if feed == s.feed then told_as rel l s.own else []

abbrev pub hearing_for : ℕ → Name → Line → Kept → Kept
hearing_for feed rel l k = holding_all (flat_map (told_for feed rel l) k.subs) k

abbrev pub hearing_line : List Feed → Line → Kept → Kept
hearing_line feeds l k = holding_all (flat_map (own_line feeds l) k.subs) k

abbrev pub hearing_lines : List Feed → List Line → Kept → Kept
hearing_lines feeds ls k = holding_all (own_lines feeds ls k.subs) k
