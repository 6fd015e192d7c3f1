-- The cell that keeps each member: an element's number or path is cell 0 and its contents' member n is cell n + 1; of a command, a connection or a
-- stream entry the member n is cell n. "Context numbers (001, notation)."
use Rattle.std.specs.Prelude.{ℕ}

-- every element: its number or path, and "all contents: identifier 0, description 1"
abbrev pub key : ℕ
key = 0

abbrev pub identifier : ℕ
identifier = 1

abbrev pub description : ℕ
description = 2

-- "Parameter: value 2, minimum 3, maximum 4, access 5, factor 8, online 9, step 11, stream identifier 14"
abbrev pub value : ℕ
value = 3

abbrev pub minimum : ℕ
minimum = 4

abbrev pub maximum : ℕ
maximum = 5

abbrev pub access : ℕ
access = 6

abbrev pub factor : ℕ
factor = 9

abbrev pub online : ℕ
online = 10

abbrev pub step : ℕ
step = 12

abbrev pub stream : ℕ
stream = 15

-- "Node: root flag 2, online 3"
abbrev pub root : ℕ
root = 3

abbrev pub node_online : ℕ
node_online = 4

-- "Matrix: type 2, mode 3, targets 4, sources 5, total limit 6, limit per target 7"
abbrev pub matrix_type : ℕ
matrix_type = 3

abbrev pub mode : ℕ
mode = 4

abbrev pub targets : ℕ
targets = 5

abbrev pub sources : ℕ
sources = 6

abbrev pub total_limit : ℕ
total_limit = 7

abbrev pub target_limit : ℕ
target_limit = 8

-- "Command: number 0, mask 1"
abbrev pub command_number : ℕ
command_number = 0

abbrev pub mask : ℕ
mask = 1

-- "Connection: target 0, sources 1, operation 2"
abbrev pub target : ℕ
target = 0

abbrev pub connection_sources : ℕ
connection_sources = 1

abbrev pub operation : ℕ
operation = 2

-- "StreamEntry: identifier 0, value 1"
abbrev pub stream_number : ℕ
stream_number = 0

abbrev pub stream_value : ℕ
stream_value = 1
