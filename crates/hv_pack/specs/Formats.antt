-- The table of formats of the MessagePack specification: the first marker of each row. What is below the first of them is a
-- number from 0 to 127, and a row of many markers ends before the next one.
use Rattle.std.specs.Prelude.{ℕ}

-- 80 to 8f, a map of as many pairs as the low four bits say
abbrev pub FIX_MAP : ℕ
FIX_MAP = 0x80

-- 90 to 9f, a list of as many values as the low four bits say
abbrev pub FIX_ARRAY : ℕ
FIX_ARRAY = 0x90

-- a0 to bf, a text of as many bytes as the low five bits say
abbrev pub FIX_STR : ℕ
FIX_STR = 0xa0

-- c0
abbrev pub NIL : ℕ
NIL = 0xc0

-- c1, which the specification leaves unused
abbrev pub NEVER_USED : ℕ
NEVER_USED = 0xc1

-- c2 and c3
abbrev pub FALSE : ℕ
FALSE = 0xc2

abbrev pub TRUE : ℕ
TRUE = 0xc3

-- c4 to c6, bytes whose count has one, two or four bytes
abbrev pub BIN_8 : ℕ
BIN_8 = 0xc4

abbrev pub BIN_16 : ℕ
BIN_16 = 0xc5

abbrev pub BIN_32 : ℕ
BIN_32 = 0xc6

-- ca and cb, a float; what is between it and bytes, c7 to c9, is an extension
abbrev pub FLOAT : ℕ
FLOAT = 0xca

-- cc to cf, a number without a sign, of one, two, four or eight bytes
abbrev pub UINT_8 : ℕ
UINT_8 = 0xcc

abbrev pub UINT_16 : ℕ
UINT_16 = 0xcd

abbrev pub UINT_32 : ℕ
UINT_32 = 0xce

abbrev pub UINT_64 : ℕ
UINT_64 = 0xcf

-- d0 to d3, a number in two's complement, of one, two, four or eight bytes; then come extensions, d4 to d8
abbrev pub INT_8 : ℕ
INT_8 = 0xd0

abbrev pub INT_16 : ℕ
INT_16 = 0xd1

abbrev pub INT_32 : ℕ
INT_32 = 0xd2

abbrev pub INT_64 : ℕ
INT_64 = 0xd3

-- d9 to db, a text whose count has one, two or four bytes
abbrev pub STR_8 : ℕ
STR_8 = 0xd9

abbrev pub STR_16 : ℕ
STR_16 = 0xda

abbrev pub STR_32 : ℕ
STR_32 = 0xdb

-- dc and dd, a list whose count has two or four bytes
abbrev pub ARRAY_16 : ℕ
ARRAY_16 = 0xdc

abbrev pub ARRAY_32 : ℕ
ARRAY_32 = 0xdd

-- de and df, a map whose count has two or four bytes; then come numbers from -32 to -1, e0 to ff
abbrev pub MAP_16 : ℕ
MAP_16 = 0xde

abbrev pub MAP_32 : ℕ
MAP_32 = 0xdf
