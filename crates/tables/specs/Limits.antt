-- The limits of documents 01 and 02, each named once.
use Rattle.std.specs.Prelude.{ℕ}

-- steps of a pattern
abbrev pub step_limit : ℕ
step_limit = 255

-- nodes of an inserted tree, of a tree that is written as tags, and of a proposed tree
abbrev pub tree_limit : ℕ
tree_limit = 1024

-- used nodes of a document
abbrev pub used_limit : ℕ
used_limit = 4096

-- steps and nodes that the plain reading takes
abbrev pub plain_steps : ℕ
plain_steps = 8

abbrev pub plain_nodes : ℕ
plain_nodes = 16

-- labels are below this: a word has 16 bits
abbrev pub word_limit : ℕ
word_limit = 65536

-- frames and words of a batch
abbrev pub frame_limit : ℕ
frame_limit = 128

abbrev pub batch_limit : ℕ
batch_limit = 16384

-- digits of a line
abbrev pub digit_limit : ℕ
digit_limit = 10244

-- names of a list
abbrev pub name_limit : ℕ
name_limit = 256

-- the greatest number that the next identity can be: 32 bits hold no greater one
abbrev pub identity_limit : ℕ
identity_limit = 4294967295
