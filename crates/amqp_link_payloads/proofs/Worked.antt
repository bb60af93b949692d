-- Values of the definitions that were worked out by hand: docs/DEFINITIONS.md lists them.
use Rattle.std.proofs.Common.{◌≡◌, ℕ, true, false, List, [], ◌∷◌, take, refl, Some, None}
use Rattle.amqp_link_payloads.specs.Header.{begins_with, small_form, large_form, header_len, may_end, ending}
use Rattle.amqp_link_payloads.specs.Position.{starts, position, place}
use Rattle.amqp_link_payloads.specs.Section.{contents_of}
use Rattle.amqp_link_payloads.specs.Tail.{blanked, recent}

-- ---- positions

abbrev eight : List ℕ
eight = 0x00 ∷ 0x53 ∷ 0x70 ∷ 0xC0 ∷ 0x00 ∷ 0x53 ∷ 0x77 ∷ 0x41 ∷ []

header_there : header_len (0x00 ∷ 0x80 ∷ 0 ∷ 0 ∷ 0 ∷ 0 ∷ 0 ∷ 0 ∷ 0 ∷ 0x78 ∷ []) ≡ 10
unfolding header_len
header_there = refl

no_header_with_a_short_code : header_len (0x00 ∷ 0x80 ∷ 0x78 ∷ []) ≡ 0
unfolding header_len
no_header_with_a_short_code = refl

no_header : header_len (0x00 ∷ 0x53 ∷ 0x79 ∷ []) ≡ 0
unfolding header_len
no_header = refl

small_header : begins_with small_form (0x00 ∷ 0x53 ∷ 0x78 ∷ 0x41 ∷ []) ≡ true
small_header = refl

code_past_the_last : begins_with small_form (0x00 ∷ 0x53 ∷ 0x79 ∷ []) ≡ false
code_past_the_last = refl

cut_header : begins_with small_form (0x00 ∷ 0x53 ∷ []) ≡ false
cut_header = refl

large_header : begins_with large_form (0x00 ∷ 0x80 ∷ 0 ∷ 0 ∷ 0 ∷ 0 ∷ 0 ∷ 0 ∷ 0 ∷ 0x70 ∷ []) ≡ true
large_header = refl

large_is_not_small : begins_with small_form (0x00 ∷ 0x80 ∷ 0 ∷ 0 ∷ 0 ∷ 0 ∷ 0 ∷ 0 ∷ 0 ∷ 0x70 ∷ []) ≡ false
large_is_not_small = refl

small_is_not_large : begins_with large_form (0x00 ∷ 0x53 ∷ 0x70 ∷ []) ≡ false
small_is_not_large = refl

header_may_end : may_end 0x00 0x75 ≡ true
header_may_end = refl

header_may_not_end : may_end 0x53 0x75 ≡ false
header_may_not_end = refl

long_header_ends : ending (0x00 ∷ 0x80 ∷ 0 ∷ 0 ∷ 0 ∷ 0 ∷ 0 ∷ 0 ∷ 0 ∷ 0x75 ∷ []) ≡ 10
unfolding header_len
long_header_ends = refl

short_header_ends : ending (1 ∷ 2 ∷ 3 ∷ 4 ∷ 5 ∷ 6 ∷ 0x41 ∷ 0x00 ∷ 0x53 ∷ 0x75 ∷ []) ≡ 3
unfolding header_len
short_header_ends = refl

last_nine : recent 9 (blanked (0x00 ∷ 0x53 ∷ 0x70 ∷ 0x41 ∷ [])) ≡ 0xff ∷ 0xff ∷ 0xff ∷ 0xff ∷ 0xff ∷ 0xff ∷ 0x53 ∷ 0x70 ∷ 0x41 ∷ []
unfolding recent
last_nine = refl

eight_starts : starts eight ≡ 0 ∷ 4 ∷ []
unfolding starts header_len
eight_starts = refl

eight_ends : position eight ≡ (1, 4)
unfolding starts header_len
eight_ends = refl

nothing_ends : position [] ≡ (0, 0)
unfolding starts header_len
nothing_ends = refl

second_start : place eight 1 0 ≡ Some 4
unfolding starts header_len
second_start = refl

within_the_next_header : place eight 0 6 ≡ Some 6
unfolding starts header_len
within_the_next_header = refl

past_the_next_header : place eight 0 7 ≡ None
unfolding starts header_len
past_the_next_header = refl

end_of_eight : place eight 1 4 ≡ Some 8
unfolding starts header_len
end_of_eight = refl

no_third_section : place eight 2 0 ≡ None
unfolding starts header_len
no_third_section = refl

-- a header with a code of eight bytes

abbrev fifteen : List ℕ
fifteen = 0x00 ∷ 0x53 ∷ 0x70 ∷ 0x45 ∷ 0x00 ∷ 0x80 ∷ 0 ∷ 0 ∷ 0 ∷ 0 ∷ 0 ∷ 0 ∷ 0 ∷ 0x77 ∷ 0x41 ∷ []

fifteen_ends : position fifteen ≡ (1, 11)
unfolding starts header_len
fifteen_ends = refl

thirteen_end : position (take 13 fifteen) ≡ (0, 13)
unfolding starts header_len
thirteen_end = refl

fourteen_end : position (take 14 fifteen) ≡ (1, 10)
unfolding starts header_len
fourteen_end = refl

within_the_long_header : place fifteen 0 13 ≡ Some 13
unfolding starts header_len
within_the_long_header = refl

past_the_long_header : place fifteen 0 14 ≡ None
unfolding starts header_len
past_the_long_header = refl

long_header_starts : place fifteen 1 0 ≡ Some 4
unfolding starts header_len
long_header_starts = refl

end_of_fifteen : place fifteen 1 11 ≡ Some 15
unfolding starts header_len
end_of_fifteen = refl

short_code_after_80 : position (0x00 ∷ 0x53 ∷ 0x70 ∷ 0xC0 ∷ 0x00 ∷ 0x80 ∷ 0x77 ∷ 0x41 ∷ []) ≡ (0, 8)
unfolding starts header_len
short_code_after_80 = refl

-- ---- data sections

data_in_short_forms : contents_of (0 ∷ 0x53 ∷ 0x75 ∷ 0xA0 ∷ 2 ∷ 0x61 ∷ 0x62 ∷ []) ≡ Some (0x61 ∷ 0x62 ∷ [])
unfolding contents_of
data_in_short_forms = refl

data_in_long_forms : contents_of (0 ∷ 0x80 ∷ 0 ∷ 0 ∷ 0 ∷ 0 ∷ 0 ∷ 0 ∷ 0 ∷ 0x75 ∷ 0xB0 ∷ 0 ∷ 0 ∷ 0 ∷ 1 ∷ 0x7F ∷ []) ≡ Some (0x7F ∷ [])
unfolding contents_of
data_in_long_forms = refl

no_data_where_a_byte_is_missing : contents_of (0 ∷ 0x53 ∷ 0x75 ∷ 0xA0 ∷ 3 ∷ 0x61 ∷ 0x62 ∷ []) ≡ None
unfolding contents_of
no_data_where_a_byte_is_missing = refl
