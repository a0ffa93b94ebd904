-- Marks worked out apart from the program: by hand, and by llvm-dlltool 19.
use Rattle.std.specs.Prelude.{◌≡◌, [], None, Some, Ok, Err, codes}
use Rattle.implib_arm64ec.specs.Marks.{mark, unmark}

-- the marks of plain names and of names of C++, and names without them
pub record WorkedMarks : Type 0 where
  pub plain : mark (codes "func") ≡ Ok (codes "#func")
  pub marked : mark (codes "#func") ≡ Ok (codes "#func")
  pub mark_alone : mark (codes "#") ≡ Ok (codes "#")
  pub underscore : mark (codes "_v") ≡ Ok (codes "#_v")
  pub stdcall : mark (codes "u@8") ≡ Ok (codes "#u@8")
  pub fastcall : mark (codes "@q@4") ≡ Ok (codes "#@q@4")
  pub cplusplus : mark (codes "?cpp@@YAHPEAX@Z") ≡ Ok (codes "?cpp@@$$hYAHPEAX@Z")
  pub marked_cplusplus : mark (codes "?cpp@@$$hYAHPEAX@Z") ≡ Ok (codes "?cpp@@$$hYAHPEAX@Z")
  pub marked_anywhere : mark (codes "?$$h") ≡ Ok (codes "?$$h")
  pub variable : mark (codes "?v@@3HA") ≡ Ok (codes "?v@@$$h3HA")
  pub template : mark (codes "?g@?$v@VC@@@std@@QEAAXXZ") ≡ Ok (codes "?g@?$v@VC@@@std@@$$hQEAAXXZ")
  pub unmarked : unmark (codes "#func") ≡ Some (codes "func")
  pub unmarked_cplusplus : unmark (codes "?cpp@@$$hYAHPEAX@Z") ≡ Some (codes "?cpp@@YAHPEAX@Z")
  pub no_mark : unmark (codes "func") ≡ None
  pub no_inner_mark : unmark (codes "?cpp@@YAHPEAX@Z") ≡ None
  pub mark_at_the_end : unmark (codes "?cpp@@$$h") ≡ None
  pub first_mark : unmark (codes "?a$$hb$$hc") ≡ Some (codes "?ab$$hc")
  pub not_of_cplusplus : unmark (codes "a$$hb") ≡ None

-- names of DLLs that Windows has, with what llvm-dlltool 19 gives
pub record WorkedNames : Type 0 where
  pub first : mark (codes "?_R2@?BN@???$_Fabs@M@std@@YAMAEBV?$complex@M@1@PEAH@Z@4MB")
      ≡ Ok (codes "?_R2@?BN@???$_Fabs@M@std@@YAMAEBV?$complex@M@1@PEAH@Z@$$h4MB")
  pub second : mark (codes "??$?8M@std@@YA_NAEBMAEBV?$complex@M@0@@Z")
      ≡ Ok (codes "??$?8M@std@@$$hYA_NAEBMAEBV?$complex@M@0@@Z")
  pub third : mark (codes "??0?$CVdsHandleImpl@$0?0@@QEAA@XZ")
      ≡ Ok (codes "??0?$CVdsHandleImpl@$0?0@@$$hQEAA@XZ")
  pub fourth : mark (codes "??0?$_SpinWait@$00@details@Concurrency@@QEAA@P6AXXZ@Z")
      ≡ Ok (codes "??0?$_SpinWait@$00@details@Concurrency@@$$hQEAA@P6AXXZ@Z")
  pub fifth : mark (codes "??_7?$moneypunct@D$0A@@std@@6B@")
      ≡ Ok (codes "??_7?$moneypunct@D$0A@@std@@$$h6B@")
  pub sixth : mark (codes "??0BASE_ELLIPSIS@@IEAA@W4ELLIPSIS_STYLE@@@Z")
      ≡ Ok (codes "??0BASE_ELLIPSIS@@$$hIEAA@W4ELLIPSIS_STYLE@@@Z")
  pub seventh : mark (codes "?Sort@CObListPlus@@QEAAKP8CObjectPlus@@EBAHPEBV2@@Z@Z")
      ≡ Ok (codes "?Sort@CObListPlus@@$$hQEAAKP8CObjectPlus@@EBAHPEBV2@@Z@Z")
  pub eighth : mark (codes "?_Current_get@sys@tr2@std@@YAPEADAEAY0BAE@D@Z")
      ≡ Ok (codes "?_Current_get@sys@tr2@std@@$$hYAPEADAEAY0BAE@D@Z")
  pub ninth : mark (codes "?_Fpz@std@@3_JB")
      ≡ Ok (codes "?_Fpz@std@@$$h3_JB")
  pub tenth : mark (codes "?_Cl@?5???$log@M@std@@YA?AV?$complex@M@1@AEBV21@@Z@4MB")
      ≡ Ok (codes "?_Cl@?5???$log@M@std@@YA?AV?$complex@M@1@AEBV21@@Z@$$h4MB")
  pub eleventh : mark (codes "??B?$CDynamicArray@GPEAG@@QEBAPEAGXZ")
      ≡ Ok (codes "??B?$CDynamicArray@GPEAG@@$$hQEBAPEAGXZ")
  pub twelfth : mark (codes
      "?_C@?1??_Nullstr@?$basic_string@DU?$char_traits@D@std@@V?$allocator@D@2@@std@@CAPEBDXZ@4DB")
      ≡ Ok
      (codes
      "?_C@?1??_Nullstr@?$basic_string@DU?$char_traits@D@std@@V?$allocator@D@2@@std@@CAPEBDXZ@$$h4DB")

-- names that use further rules, with what llvm-dlltool 19 gives
pub record WorkedCraftedNames : Type 0 where
  pub first : mark (codes "??$?__Kaa@$0?0C$F?88_S$M$$TUa@@_KTb@bb@b@c@@@@YAXXZ")
      ≡ Ok (codes "??$?__Kaa@$0?0C$F?88_S$M$$TUa@@_KTb@bb@b@c@@@@$$hYAXXZ")
  pub second : mark (codes "??$?3?S?Ab@@?D_SW4cb?@@@abccc@@YAXXZ")
      ≡ Ok (codes "??$?3?S?Ab@@?D_SW4cb?@@@abccc@@$$hYAXXZ")
  pub third : mark (codes "?acc??bab?@c@?6??b@@QBAY04M@_E@YAXXZ")
      ≡ Ok (codes "?acc??bab?@c@?6??b@@QBAY04M@_E@$$hYAXXZ")
  pub fourth : mark (codes "?a?cc@?C@??aa@@1$$QB?BW4?Aa@@C@YAXXZ")
      ≡ Ok (codes "?a?cc@?C@??aa@@1$$QB?BW4?Aa@@C@$$hYAXXZ")
  pub fifth : mark (codes "??3c@?$ca?@W4c@?Aabbc@b?c@?$?PA6ATab@@KC@Z@@@@YAXXZ")
      ≡ Ok (codes "??3c@?$ca?@W4c@?Aabbc@b?c@?$?PA6ATab@@KC@Z@@@@$$hYAXXZ")
  pub sixth : mark (codes "??$?_C$$$V@@YAXXZ")
      ≡ Ok (codes "??$?_C$$$V@@$$hYAXXZ")
  pub seventh : mark (codes "??__K?b@?$?$?__3$MW4a@c@@C@$S@@YAXXZ")
      ≡ Ok (codes "??__K?b@?$?$?__3$MW4a@c@@C@$S@@$$hYAXXZ")
  pub eighth : mark (codes "??$?$c@Y732650334F@@@YAXXZ")
      ≡ Ok (codes "??$?$c@Y732650334F@@@$$hYAXXZ")
  pub ninth : mark (codes "??$a@$GO@?BH@@Y04_N@@YAXXZ")
      ≡ Ok (codes "??$a@$GO@?BH@@Y04_N@@$$hYAXXZ")
  pub tenth : mark (codes "??_Hb@?$c@R6A@Vbba@?Ac?cc@@ZZ@@YAXXZ")
      ≡ Ok (codes "??_Hb@?$c@R6A@Vbba@?Ac?cc@@ZZ@@$$hYAXXZ")
  pub eleventh : mark (codes "?b@ab@?2???Faa@c@@ADARETa@@KXZ@YAXXZ")
      ≡ Ok (codes "?b@ab@?2???Faa@c@@ADARETa@@KXZ@$$hYAXXZ")

-- names without a reading, and where it fails: a byte with which none goes on, or the name's end
pub record WorkedRefusals : Type 0 where
  pub empty : mark [] ≡ Err 0
  pub question : mark (codes "?") ≡ Err 1
  pub unfinished : mark (codes "?bad") ≡ Err 4
  pub one_sign : mark (codes "?bad@") ≡ Err 5
  pub type_information : mark (codes "??_R0H@8") ≡ Err 8
  pub no_name : mark (codes "?@@YAXXZ") ≡ Err 1
  pub hash : mark (codes "??@0123456789abcdef0123456789abcdef@") ≡ Err 2
  pub other_type : mark (codes "??$f@$$W@@YAXXZ") ≡ Err 7
  pub lower_case : mark (codes "??$f@z@@YAXXZ") ≡ Err 5
