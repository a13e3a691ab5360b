-- Words of the messages that are worked out.
use Rattle.std.specs.Prelude.{◌≡◌, ℕ, List, ◌++◌, codes, Option, Some, None}
use Rattle.iv_machine.specs.Act.{Act}
use Rattle.serde_json.specs.Data.{Data}
use Rattle.iv_request.specs.Values.{natural}
use Rattle.iv_message.specs.Message.{Why, message_of, no_request, request}

-- the message asks for this, and has no id
abbrev pub Asks : List ℕ → Act → Type 0
Asks text act = message_of text ≡ request None act

-- the message is no request, for this reason, and has no id
abbrev pub IsUnasked : List ℕ → Why → Type 0
IsUnasked text why = message_of text ≡ no_request None why

abbrev pub seven : Option Data
seven = Some (natural 7)

-- a request to subscribe, with this before its relation
abbrev pub subscribe_text : List ℕ → List ℕ
subscribe_text more = codes "{\"do\":\"subscribe\"," ++ (more ++ codes "\"on\":\"notes\"}")

abbrev pub second_wrong : List ℕ
second_wrong = codes "{\"do\":\"write\",\"entries\":[{\"on\":\"notes\",\"insert\":[1]},{\"on\":\"notes\",\"insert\":[null]}]}"

-- a policy for inserts has no `using`
abbrev pub using_of_insert : List ℕ
using_of_insert = codes "{\"do\":\"create_policy\",\"on\":\"notes\",\"name\":\"p\",\"command\":\"insert\",\"using\":\"true\",\"check\":\"true\"}"

-- what is told of a table that was opened, of a role that was made, and of a write whose third entry is none
abbrev pub notes_opened : List ℕ
notes_opened = codes "{\"columns\":[[\"id\",\"int\"],[\"who\",\"text\"]],\"id\":7,\"ok\":true,\"sub\":1}\n"

abbrev pub mia_made : List ℕ
mia_made = codes "{\"as\":\"admin\",\"made\":{\"do\":\"create_role\", \"name\":\"mia\"}}\n"

abbrev pub third_wrong : List ℕ
third_wrong = codes "{\"entry\":3,\"error\":2,\"id\":7,\"key\":\"entries\",\"why\":\"wrong\"}\n"
