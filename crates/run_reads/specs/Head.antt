-- What stands where in the head of a case: src/main.rt says at its top what a case is. Numbers are
-- little-endian.
use Rattle.std.specs.Prelude.{ℕ, ◌+◌, ◌*◌, List, slice_index}
use Rattle.fields.specs.LittleEndian.{le_at}

-- its kind: 0 parse, 1 decode, 2 read, 3 tiny, 4 ID type
abbrev pub kind_in : (head : List ℕ) → ℕ
kind_in head = slice_index head 0

-- the last kind
abbrev pub last_kind : ℕ
last_kind = 4

-- the file's Size of Offsets and Size of Lengths
abbrev pub offset_size_in : (head : List ℕ) → ℕ
offset_size_in head = slice_index head 1

abbrev pub length_size_in : (head : List ℕ) → ℕ
length_size_in head = slice_index head 2

-- the offset size that an object is read with
abbrev pub read_size_in : (head : List ℕ) → ℕ
read_size_in head = slice_index head 3

-- the heap ID length
abbrev pub id_length_in : (head : List ℕ) → ℕ
id_length_in head = le_at head 4 2

-- how many bytes the file has, and the ID
abbrev pub file_bytes : (head : List ℕ) → ℕ
file_bytes head = le_at head 6 4

abbrev pub id_bytes : (head : List ℕ) → ℕ
id_bytes head = le_at head 10 4

-- where in the file the header begins
abbrev pub header_place_in : (head : List ℕ) → ℕ
header_place_in head = le_at head 14 8

-- the number that is recorded: 0, or the refusal's
abbrev pub number_in : (head : List ℕ) → ℕ
number_in head = le_at head 22 4

-- how many words are recorded: two of an answer, of a header as many as it has numbers
abbrev pub word_count_in : (head : List ℕ) → ℕ
word_count_in head = slice_index head 26

abbrev pub answer_words : ℕ
answer_words = 2

-- the words stand from here on, one behind the other, so that the i-th is at this place
abbrev pub words_place : ℕ
words_place = 27

abbrev pub word_size : ℕ
word_size = 8

abbrev pub word_place : (i : ℕ) → ℕ
word_place i = words_place + word_size * i
