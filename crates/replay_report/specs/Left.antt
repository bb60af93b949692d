-- What is left at the end of a trace.
use Rattle.std.specs.Prelude.{◌≡◌, vec_len}
use Rattle.std.specs.VecDeque.{deque_len}
use Rattle.replay_report.specs.declared.made.Made.{Made}

-- nothing but flows is left that the endpoint has made and no row has stated; some flows are replies that a peer may leave out
pub record IsAllStated (made : Made) : Type 0 where
  pub attaches : deque_len made.attaches ≡ 0
  pub detaches : deque_len made.detaches ≡ 0
  pub deliveries : deque_len made.deliveries ≡ 0
  pub dispositions : vec_len made.dispositions ≡ 0
  pub handed_out : deque_len made.handed_out ≡ 0
  pub outcomes : vec_len made.outcomes ≡ 0
