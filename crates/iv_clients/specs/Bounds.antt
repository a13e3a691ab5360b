-- Numbers that bound what clients take of the gateway.
use Rattle.std.specs.Prelude.{ℕ}

-- sessions 1 to this number serve roles; entries of the journal run in the next one
abbrev pub most_seats : ℕ
most_seats = 255

abbrev pub entry_session : ℕ
entry_session = 256

-- shared subscriptions of a session: the machine allows 16, and one place is kept for what is asked once more
abbrev pub most_feeds : ℕ
most_feeds = 15

-- numbers of a client that are open at a time, as many as a session of the machine has
abbrev pub most_subs : ℕ
most_subs = 16

-- requests of a client since text was last handed to it
abbrev pub most_requests : ℕ
most_requests = 32

-- bytes that may wait for a client that is heard
abbrev pub most_waiting : ℕ
most_waiting = 262144

-- bytes that others brought a client, that were offered to it, and that it has not taken
abbrev pub most_piled : ℕ
most_piled = 4194304
