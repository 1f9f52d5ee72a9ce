-- The memory that a book has in reserve.
use Rattle.std.specs.Prelude.{ℕ, ◌+◌, ◌*◌, ◌≤◌, Bool, cond}

-- each waiting path may be held, each held path may wait again, and each has room for its events
pub record HasRoom (stopped : Bool) (waiting waiting_room held held_room events events_room : ℕ) : Type 0 where
  pub to_wait : waiting + held ≤ waiting_room
  pub to_hold : waiting + held ≤ held_room
  pub to_tell : events + held + cond stopped 0 (2 * waiting) ≤ events_room

-- the same with two more paths, after a split of one that is held
pub record RoomForTwo (waiting waiting_room held held_room events events_room : ℕ) : Type 0 where
  pub to_wait : waiting + held + 2 ≤ waiting_room
  pub to_hold : waiting + held + 2 ≤ held_room
  pub to_tell : events + held + 2 * waiting + 4 ≤ events_room
