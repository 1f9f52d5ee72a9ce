-- A book keeps its reserve through each event.
use Rattle.std.proofs.Common.{◌≡◌, ℕ, ◌+◌, ◌*◌, ◌≤◌, Bool, true, false, arith}
use Rattle.branch_core.specs.Room.{HasRoom, RoomForTwo}

pub room_take : (stopped : Bool) (waiting waiting_room held held_room events events_room waiting' held' events' : ℕ) → stopped ≡ false
    → HasRoom stopped waiting waiting_room held held_room events events_room → waiting' + 1 ≡ waiting → held' ≡ held + 1 → events' ≡ events + 1
    → HasRoom stopped waiting' waiting_room held' held_room events' events_room
room_take stopped w wr h hr e er w' h' e' free r lw lh le =
    let tell : e + h + 2 * w ≤ er = rw free at r.to_tell in
    let told : e' + h' + 2 * w' ≤ er = omega arith in
    record { to_wait = omega (arith, r.to_wait); to_hold = omega (arith, r.to_hold); to_tell = rw free told }

pub room_leaf : (stopped : Bool) (waiting waiting_room held held_room events events_room held' events' : ℕ)
    → HasRoom stopped waiting waiting_room held held_room events events_room → held' + 1 ≡ held → events' ≡ events + 1
    → HasRoom stopped waiting waiting_room held' held_room events' events_room
room_leaf stopped w wr h hr e er h' e' r lh le =
    record { to_wait = omega (arith, r.to_wait); to_hold = omega (arith, r.to_hold); to_tell = omega (arith, r.to_tell) }

pub room_refuse : (stopped : Bool) (waiting waiting_room held held_room events events_room waiting' held' events' : ℕ)
    → HasRoom stopped waiting waiting_room held held_room events events_room → waiting' ≡ waiting + 1 → held' + 1 ≡ held → events' ≡ events + 1
    → HasRoom true waiting' waiting_room held' held_room events' events_room
room_refuse stopped w wr h hr e er w' h' e' r lw lh le =
    record { to_wait = omega (arith, r.to_wait); to_hold = omega (arith, r.to_hold); to_tell = omega (arith, r.to_tell) }

pub room_split : (stopped : Bool) (waiting waiting_room held held_room events events_room waiting' held' events' : ℕ)
    → RoomForTwo waiting waiting_room held held_room events events_room → waiting' ≡ waiting + 2 → held' + 1 ≡ held → events' ≡ events + 1
    → HasRoom stopped waiting' waiting_room held' held_room events' events_room
room_split true w wr h hr e er w' h' e' r lw lh le =
    record { to_wait = omega (arith, r.to_wait); to_hold = omega (arith, r.to_hold); to_tell = omega (arith, r.to_tell) }
room_split false w wr h hr e er w' h' e' r lw lh le =
    record { to_wait = omega (arith, r.to_wait); to_hold = omega (arith, r.to_hold); to_tell = omega (arith, r.to_tell) }
