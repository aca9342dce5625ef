-- What hears replies has room for others.
use Rattle.std.proofs.Common.{◌≡◌, ℕ, ◌+◌, ◌≤◌, arith, subst, sym}
use Rattle.xf_types.specs.declared.call.Place.{Place}
use Rattle.xf_types.specs.declared.call.Reply.{Reply}
use Rattle.xf_run.specs.Heard.{Heard, Text, Sums, HasRoom, HearsAtMost, hear}

-- where there is room for some, there is room for fewer
pub room_less : (h : Heard) (line count few : ℕ) → few ≤ count → HasRoom h line count → HasRoom h line few
room_less (Text text) line count few le room = tt
room_less (Sums sums) line count few le room = (room.0, omega (arith, le, room.1))

-- and for an earlier line
pub room_before : (h : Heard) (line before count : ℕ) → before ≤ line → HasRoom h line count → HasRoom h before count
room_before (Text text) line before count le room = tt
room_before (Sums sums) line before count le room = (omega (arith, le, room.0), room.1)

-- so much room is left
pub room_left : (old new : Heard) (line heard count all : ℕ) → HearsAtMost heard old new → HasRoom old line all → count + heard ≤ all
    → HasRoom new line count
room_left old new line heard count all few room le = few line count (room_less old line all (count + heard) le room)

hears_hear : (h : Heard) (at : Place) (r : Reply) → HearsAtMost 1 h (hear h at r)
hears_hear (Text text) at r line others room = tt
hears_hear (Sums sums) at r line others room = (room.0, omega (arith, room.1))

-- a reply is one
pub hears_one : (old new : Heard) (at : Place) (r : Reply) → new ≡ hear old at r → HearsAtMost 1 old new
hears_one old new at r is = subst (λ (h : Heard). HearsAtMost 1 old h) (sym is) (hears_hear old at r)

-- none was heard
pub hears_none : (h : Heard) → HearsAtMost 0 h h
hears_none h line others room = room_less h line (others + 0) others (omega arith) room

-- some, and then others
pub hears_more : (m n : ℕ) (old mid new : Heard) → HearsAtMost m old mid → HearsAtMost n mid new → HearsAtMost (m + n) old new
hears_more m n old mid new first then line others room =
    then line others (first line (others + n) (room_less old line (others + (m + n)) (others + n + m) (omega arith) room))

-- at most more
pub hears_fewer : (m n : ℕ) (old new : Heard) → m ≤ n → HearsAtMost m old new → HearsAtMost n old new
hears_fewer m n old new le few line others room = few line others (room_less old line (others + n) (others + m) (omega (arith, le)) room)
