-- What a good path is, which names a source below the root of its tree (the profile's): a text of at most 4,096 bytes
-- with no character below U+0020, that ends in `.proto`, and whose components, which are between `/`, are none of
-- them empty, `.` or `..`. A folder's path is good as that of a source is, but for the ending.
use Rattle.std.specs.Prelude.{◌≡◌, ℕ, Bool, true, not, ◌&&◌, ◌||◌, List, [], ◌++◌, codes, nat_eq, nat_le, length}
use Rattle.std.specs.List.{list_all, slice_split}
use Rattle.std.specs.Str.{bytes_eq}

-- the most bytes of a path
abbrev pub max_path_length : ℕ
max_path_length = 4096

abbrev pub slash : ℕ
slash = 47

-- not empty, and neither this folder nor the one above
abbrev pub is_component : List ℕ → Bool
is_component text = not (bytes_eq text [] || (bytes_eq text (codes ".") || bytes_eq text (codes "..")))

-- not a byte of a control character
abbrev pub is_printable : ℕ → Bool
is_printable byte = nat_le 32 byte

-- So it isn't empty, and neither begins nor ends with `/`. A text is the list of its bytes in UTF-8, of which those
-- below 32 are just the characters below U+0020.
abbrev pub is_good_folder : List ℕ → Bool
is_good_folder path =
    nat_le (length path) max_path_length
    && (list_all is_printable path && list_all is_component (slice_split (λ byte. nat_eq byte slash) path))

pub record IsGoodPath (path : List ℕ) : Type 0 where
  pub as_folder : is_good_folder path ≡ true
  pub name : List ℕ
  pub ending : path ≡ name ++ codes ".proto"
