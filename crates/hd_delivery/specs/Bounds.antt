-- What an end may hold.
use Rattle.std.specs.Prelude.{ℕ, ◌+◌, ◌≤◌}
use Rattle.hd_delivery.specs.Worlds.{Limits}
use Rattle.hd_delivery.specs.Numbers.{most_framing}

-- the least and the greatest limit of a frame without its framing, in bytes
abbrev pub least_frame : ℕ
least_frame = 256

abbrev pub most_frame : ℕ
most_frame = 1048576

-- the greatest limit of the number of frames held
abbrev pub most_count : ℕ
most_count = 65536

-- the greatest limit of the bytes held, of frames with their framing
abbrev pub most_bytes : ℕ
most_bytes = 16777216

-- the greatest size of a framed frame, in bytes
abbrev pub most_size : Limits → ℕ
most_size limits = limits.frame + most_framing

-- each limit is in range; a frame of the greatest size can be held
pub record AreLimits (limits : Limits) : Type 0 where
  pub frame_not_less : least_frame ≤ limits.frame
  pub frame_not_more : limits.frame ≤ most_frame
  pub count_not_less : 1 ≤ limits.count
  pub count_not_more : limits.count ≤ most_count
  pub bytes_not_less : most_size limits ≤ limits.bytes
  pub bytes_not_more : limits.bytes ≤ most_bytes
