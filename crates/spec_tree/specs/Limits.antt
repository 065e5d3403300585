-- The most that there may be of each thing in trees, worlds, files and runs, each by one name.
use Rattle.std.specs.Prelude.{ℕ}

-- the bytes of a file
abbrev pub most_file_bytes : ℕ
most_file_bytes = 1048576

-- the nodes of a tree
abbrev pub most_nodes : ℕ
most_nodes = 4096

-- how deep a node of a tree stands, its root at 1
abbrev pub most_depth : ℕ
most_depth = 256

-- the scopes of a tree, that of its root among them
abbrev pub most_scopes : ℕ
most_scopes = 256

-- the entries of a blackboard
abbrev pub most_keys : ℕ
most_keys = 4096

-- the visits that one visit of the root makes at most
abbrev pub most_work : ℕ
most_work = 100000

-- the facts of a world
abbrev pub most_facts : ℕ
most_facts = 1024

-- the rows of a world
abbrev pub most_rows : ℕ
most_rows = 1024

-- the rows that are made for the leaves of a tree that is run without a world script
abbrev pub most_made_rows : ℕ
most_made_rows = 4096

-- the input ports of such a row, and its outputs
abbrev pub most_made_ports : ℕ
most_made_ports = 64

-- the goals of a world
abbrev pub most_goals : ℕ
most_goals = 64

-- the runners of a world
abbrev pub most_runners : ℕ
most_runners = 16

-- the events of a world
abbrev pub most_events : ℕ
most_events = 100000

-- the last moment, and the longest duration, in milliseconds
abbrev pub last_moment : ℕ
last_moment = 1000000000000

-- the input ports of a row
abbrev pub most_ports : ℕ
most_ports = 8

-- the needs of a row
abbrev pub most_needs : ℕ
most_needs = 16

-- the effects of a row
abbrev pub most_effects : ℕ
most_effects = 16

-- the outputs of a row
abbrev pub most_outputs : ℕ
most_outputs = 8

-- the outcomes of a row that replays
abbrev pub most_outcomes : ℕ
most_outcomes = 64

-- the bytes of a name in a world
abbrev pub most_name_bytes : ℕ
most_name_bytes = 64

-- the rounds of a run by the clock
abbrev pub most_rounds : ℕ
most_rounds = 100000

-- the leaves of a load
abbrev pub most_leaves : ℕ
most_leaves = 1000

-- the bytes of a text in a script or at a port
abbrev pub most_text_bytes : ℕ
most_text_bytes = 4096

-- the attempts of a Retry and the cycles of a Repeat, where there are not endlessly many
abbrev pub most_turns : ℕ
most_turns = 1000

-- the recoveries of a RecoveryNode
abbrev pub most_recoveries : ℕ
most_recoveries = 1000

-- the rate of a RateController, in thousandths of a hertz
abbrev pub most_rate : ℕ
most_rate = 1000000

-- the longest duration at a port, in milliseconds
abbrev pub longest_duration : ℕ
longest_duration = 4294967295
