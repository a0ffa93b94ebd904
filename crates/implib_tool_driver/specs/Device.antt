-- The devices of the program (this project's own).
use Rattle.std.specs.Prelude.{Bool}
use Rattle.implib_tool_driver.specs.declared.host.Host.{Host}

-- whether a call of a device of the system has failed
abbrev pub host_failed : {T : Type 0} → Host T → Bool
host_failed host = host.has_failed

-- the reader or the writer in it
abbrev pub host_inner : {T : Type 0} → Host T → T
host_inner host = host.inner
