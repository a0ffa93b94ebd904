use Rattle.std.proofs.Common.{ap, set, ◌∙◌}
use Rattle.implib.specs.Formats.ShortImport.{ShortImport}
use Rattle.implib.specs.Members.Msvc.{short_import_bytes, short_import_view}
use Rattle.implib_arm64ec.proofs.Machine.{has_machine, machine_written}
use Rattle.implib_arm64ec.proofs.kept_import.KeptImport.bytes.Goals as goal

pub for_arm64ec-requires : goal.for_arm64ec-requires
for_arm64ec-requires c = has_machine c.in-Ok.bytes.items (short_import_view c.said.result) c.in-Ok.ensures.ok

pub returns-in-Ok : goal.returns-in-Ok
returns-in-Ok c =
    c.for_arm64ec.ensures
    ∙ (ap (λ bytes. set (set bytes 6 0x41) 7 0xA6) c.in-Ok.ensures.ok
    ∙ (machine_written (short_import_view c.said.result)
    ∙ ap (λ (r : ShortImport). short_import_bytes (record r { machine = 0xA641 })) c.said.ensures.says))
