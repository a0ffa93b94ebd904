-- What is known of the system's disk (this project's own).
use Rattle.std.specs.Prelude.{None}
use Rattle.std.specs.Option.{option_map}
use Rattle.std.specs.String.{string_bytes}
use Rattle.implib_driver.specs.Disk.{DiskView}
use Rattle.implib_driver.specs.declared.devices.files.State.{State}

-- of its bytes, names and links nothing is known
abbrev pub state_view : State → DiskView
state_view state = record {
  seen = λ path. None;
  same = λ one other. None;
  listed = λ path. None;
  left = option_map (λ made. string_bytes made.path) state.made;
  has_failed = state.has_failed;
  is_stuck = state.is_stuck;
}
