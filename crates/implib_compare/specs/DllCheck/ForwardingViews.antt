-- What a caller sees of forwarders of the program.
use Rattle.std.specs.Prelude.{map}
use Rattle.implib_dll.specs.Views.{exports_view}
use Rattle.implib_compare.specs.DllCheck.Forwarding.{Beside, Content, End, Known, Step, known_in}
use Rattle.implib_compare.specs.DllCheck.Forwarding as seen
use Rattle.implib_compare.specs.declared.dll_check.forwarder.Beside.{Beside as BorrowedBeside}
use Rattle.implib_compare.specs.declared.dll_check.forwarder.DllContent.{DllContent}
use Rattle.implib_compare.specs.declared.dll_check.forwarder.DllContent.TheVariants.{NoFile, Refused}
use Rattle.implib_compare.specs.declared.dll_check.forwarder.DllContent.TheVariants.{NoExports, Holds}
use Rattle.implib_compare.specs.declared.dll_check.forwarder.End.{End as BorrowedEnd}
use Rattle.implib_compare.specs.declared.dll_check.forwarder.End.TheVariants.{Arrives, Stops, Unknown}
use Rattle.implib_compare.specs.declared.dll_check.forwarder.NamedDll.{NamedDll}
use Rattle.implib_compare.specs.declared.dll_check.forwarder.Step.{Step as BorrowedStep}
use Rattle.implib_compare.specs.declared.dll_check.forwarder.Step.TheVariants.{On, Ends}

abbrev pub content_view : DllContent → Content
content_view NoFile = seen.NoFile
content_view Refused = seen.Refused
content_view NoExports = seen.NoExports
content_view (Holds exports) = seen.Holds (exports_view exports)

abbrev pub known_view : NamedDll → Known
known_view d = record { name = d.name.items; content = content_view d.content }

abbrev pub beside_view : BorrowedBeside → Beside
beside_view b = record {
  exports = exports_view b.exports.now;
  names = map (λ one. one.items) b.names.now;
  others = known_in (map known_view b.others.now);
}

abbrev pub end_view : BorrowedEnd → End
end_view Arrives = seen.Arrives
end_view (Stops text why) = seen.Stops text.now why
end_view (Unknown name) = seen.Unknown name.now

abbrev pub step_view : BorrowedStep → Step
step_view (On text) = seen.On text.now
step_view (Ends end) = seen.Ends (end_view end)
