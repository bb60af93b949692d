use Rattle.std.proofs.Common.{◌+◌, ◌*◌}
use Rattle.performative_rows.proofs.value.+read_value.Given as goal

-- what holds other values has one less to go for each of them
abbrev pub decreases-read_value : goal.decreases-read_value
decreases-read_value l = 2 * l.depth

abbrev pub decreases-read_list : goal.decreases-read_list
decreases-read_list l = 2 * l.depth + 1

abbrev pub decreases-read_map : goal.decreases-read_map
decreases-read_map l = 2 * l.depth + 1

abbrev pub decreases-read_described : goal.decreases-read_described
decreases-read_described l = 2 * l.depth + 1
