-- What a marker begins, by the table of formats.
use Rattle.std.specs.Prelude.{ℕ, ◌-◌, ◌==◌, nat_lt, pos, negsuc, true, false, if◌then◌else◌}
use Rattle.std.specs.Int.{Width, w8, w16, w32, w64}
use Rattle.hv_pack.specs.declared.marker.Marker.{Marker}
use Rattle.hv_pack.specs.declared.marker.Marker.TheVariants.{Null, Bool, Small, Unsigned, Signed, Text, Bytes, List, Map, Never, Fraction, Ext}
use Rattle.hv_pack.specs.declared.marker.Count.TheVariants.{Here, Behind}
use Rattle.hv_pack.specs.declared.marker.Size.{Size}
use Rattle.hv_pack.specs.declared.marker.Size.TheVariants.{One, Two, Four, Eight}
use Rattle.hv_pack.specs.Formats.{FIX_MAP, FIX_ARRAY, FIX_STR, NIL, NEVER_USED, FALSE, TRUE, BIN_8, BIN_16, BIN_32, FLOAT, UINT_8, UINT_16, UINT_32, UINT_64, INT_8, INT_16, INT_32, INT_64, STR_8, STR_16, STR_32, ARRAY_16, ARRAY_32, MAP_16, MAP_32}

abbrev pub width : Size → Width
width One = w8
width Two = w16
width Four = w32
width Eight = w64

-- the rows in order; where a row has many markers it ends before the next
unfoldable pub marker_of : ℕ → Marker
marker_of b =
    if nat_lt b FIX_MAP then Small (pos b) else
    if nat_lt b FIX_ARRAY then Map (Here (b - FIX_MAP)) else
    if nat_lt b FIX_STR then List (Here (b - FIX_ARRAY)) else
    if nat_lt b NIL then Text (Here (b - FIX_STR)) else
    if b == NIL then Null else
    if b == NEVER_USED then Never else
    if b == FALSE then Bool false else
    if b == TRUE then Bool true else
    if b == BIN_8 then Bytes (Behind One) else
    if b == BIN_16 then Bytes (Behind Two) else
    if b == BIN_32 then Bytes (Behind Four) else
    if nat_lt b FLOAT then Ext else
    if nat_lt b UINT_8 then Fraction else
    if b == UINT_8 then Unsigned One else
    if b == UINT_16 then Unsigned Two else
    if b == UINT_32 then Unsigned Four else
    if b == UINT_64 then Unsigned Eight else
    if b == INT_8 then Signed One else
    if b == INT_16 then Signed Two else
    if b == INT_32 then Signed Four else
    if b == INT_64 then Signed Eight else
    if nat_lt b STR_8 then Ext else
    if b == STR_8 then Text (Behind One) else
    if b == STR_16 then Text (Behind Two) else
    if b == STR_32 then Text (Behind Four) else
    if b == ARRAY_16 then List (Behind Two) else
    if b == ARRAY_32 then List (Behind Four) else
    if b == MAP_16 then Map (Behind Two) else
    if b == MAP_32 then Map (Behind Four) else
    Small (negsuc (255 - b))
