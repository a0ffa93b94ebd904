-- DLLs in memory worked by hand: `w.dll`, whose gamma, at ordinal 8, is forwarded to `K.f`;
-- `k.dll`, which forwards f by an ordinal to `Deep.Name.drv`; that, which has a function; and
-- `round.dll`, whose exports are forwarded in a circle.
use Rattle.std.specs.Prelude.{◌≡◌, List, [], ◌∷◌, None, Some, codes}
use Rattle.implib.specs.Import.{Name, Ordinal}
use Rattle.implib.specs.Link.Load.{number_in}
use Rattle.implib_dll.specs.Exports.{Address, Empty, Forwarder}
use Rattle.implib_dll.specs.WorkedFiles.{named, worked_exports}
use Rattle.implib_dll.specs.declared.section.AddressKind.TheVariants.{Code}
use Rattle.implib_link.specs.Tables.{Tables}
use Rattle.implib_system.specs.Laws.{Reaches}
use Rattle.implib_system.specs.System.{DllInMemory, address_of, asked_of, bytes_of, called, given}

abbrev pub w_dll : DllInMemory
w_dll = record { name = codes "w.dll"; base = 0x400000; exports = worked_exports }

abbrev pub k_dll : DllInMemory
k_dll = record {
  name = codes "k.dll";
  base = 0x10000000;
  exports = record worked_exports {
    base = 1;
    targets = Forwarder (codes "Deep.Name.drv.#7") ∷ [];
    names = named (codes "f") 0 ∷ [];
  };
}

abbrev pub deep_drv : DllInMemory
deep_drv = record {
  name = codes "deep.name.drv";
  base = 0x180000000;
  exports = record worked_exports
      { base = 6; targets = Empty ∷ Address 0x1040 Code ∷ []; names = [] };
}

-- each forwarded to the other
abbrev pub round_dll : DllInMemory
round_dll = record {
  name = codes "round.dll";
  base = 0x20000000;
  exports = record worked_exports {
    base = 1;
    targets = Forwarder (codes "round.b") ∷ Forwarder (codes "ROUND.a") ∷ Forwarder (codes "none.a")
        ∷ Forwarder (codes "a") ∷ [];
    names = named (codes "a") 0 ∷ named (codes "b") 1 ∷ [];
  };
}

abbrev pub system : List DllInMemory
system = w_dll ∷ k_dll ∷ deep_drv ∷ round_dll ∷ []

pub record WorkedSystem : Type 0 where
  -- names of DLLs
  pub by_name : called system (codes "W") ≡ Some w_dll
  pub no_such_dll : called system (codes "x.dll") ≡ None
  pub ending : called system (codes "w.drv") ≡ None
  -- addresses: by a name, with a wrong hint, by an ordinal; a hole, and a name that is not there
  pub code : address_of 0 system (codes "W.DLL") (Name (codes "alpha") 0) ≡ Some 0x401000
  pub searched : address_of 0 system (codes "w") (Name (codes "beta") 9) ≡ Some 0x401000
  pub variable : address_of 0 system (codes "w.dll") (Ordinal 6) ≡ Some 0x402004
  pub hole : address_of 9 system (codes "w.dll") (Ordinal 7) ≡ None
  pub no_name : address_of 9 system (codes "w.dll") (Name (codes "delta") 0) ≡ None
  pub of_none : address_of 9 system (codes "v.dll") (Name (codes "alpha") 0) ≡ None
  -- forwarders, of which two are to be followed, one alone is not enough
  pub forwarder : asked_of system (codes "w.dll") (Name (codes "gamma") 2)
      ≡ Some (w_dll, Forwarder (codes "K.f"))
  pub through_two : address_of 2 system (codes "w.dll") (Ordinal 8) ≡ Some 0x180001040
  pub through_one : address_of 1 system (codes "w.dll") (Ordinal 8) ≡ None
  pub from_second : address_of 1 system (codes "k.dll") (Name (codes "f") 0) ≡ Some 0x180001040
  -- a circle, a DLL that is not there, and a text without a full stop
  pub circle : address_of 50 system (codes "round.dll") (Name (codes "a") 0) ≡ None
  pub to_no_dll : address_of 9 system (codes "round.dll") (Ordinal 3) ≡ None
  pub no_full_stop : address_of 9 system (codes "round.dll") (Ordinal 4) ≡ None
  -- bytes
  pub bytes : bytes_of 4 0x401000 ≡ 0 ∷ 0x10 ∷ 0x40 ∷ 0 ∷ []
  pub long : bytes_of 8 0x180001040 ≡ 0x40 ∷ 0x10 ∷ 0 ∷ 0x80 ∷ 1 ∷ 0 ∷ 0 ∷ 0 ∷ []
  pub cut : number_in (bytes_of 4 0x180001040) ≡ 0x80001040
  pub zeros : given 9 4 system (codes "w.dll") (Ordinal 7) ≡ 0 ∷ 0 ∷ 0 ∷ 0 ∷ []
  pub written : given 2 8 system (codes "w.dll") (Ordinal 8) ≡ 0x40 ∷ 0x10 ∷ 0 ∷ 0x80 ∷ 1 ∷ 0 ∷ 0 ∷ 0 ∷ []

-- import tables: two imports of `w.dll`, and one of `k.dll`
abbrev pub tables : Tables
tables = record {
  image = [];
  linked = [];
  directory = 0x2000;
  tables =
      record {
        dll = codes "W.DLL";
        address = 0x2068;
        entries =
            record { ask = Name (codes "alpha") 0; symbol = Some (codes "__imp_alpha") }
            ∷ record { ask = Ordinal 8; symbol = Some (codes "__imp_gamma") } ∷ [];
      }
      ∷ record {
        dll = codes "k";
        address = 0x2080;
        entries = record { ask = Name (codes "f") 7; symbol = Some (codes "__imp_f") } ∷ [];
      } ∷ [];
}

-- Which addresses their entries reach: of a function of the DLL itself, and through one forwarder
-- and two.
pub record WorkedReach : Type 0 where
  pub own : Reaches tables 0 system (codes "__imp_alpha") 0x401000
  pub through_two : Reaches tables 2 system (codes "__imp_gamma") 0x180001040
  pub through_one : Reaches tables 1 system (codes "__imp_f") 0x180001040
